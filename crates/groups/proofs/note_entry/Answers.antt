-- `note_entry` meets its contract: its first place, and of a move its second.
use mathlib.Core.Path.{refl}
use native.Mathlib.Omega.{arith}
use Rattle.reginfo.specs.Table.{reg_info_of}
use Rattle.groups.proofs.Entries.{is-remat}
use Rattle.groups.proofs.Tables.{own-label}
use Rattle.groups.proofs.Noting.{remat-noted, move-noted}
use Rattle.groups.proofs.note_entry.Goals as goal

pub bounds-labels-k : goal.bounds-labels-k
bounds-labels-k c = omega (arith, c.requires.2)

pub overflow_mul-k : goal.overflow_mul-k
overflow_mul-k c =
    let pre = c.requires in
    omega (arith, pre.2)

pub overflow_add-k : goal.overflow_add-k
overflow_add-k c =
    let pre = c.requires in
    omega (arith, pre.2)

pub place_at-requires : goal.place_at-requires
place_at-requires c =
    let pre = c.requires in
    (omega (arith, pre.1), pre.0.first.fits)

pub note_place-requires : goal.note_place-requires
note_place-requires c =
    let pre = c.requires in
    (rw c.place_at.ensures pre.0.first.place, pre.2)

pub overflow_mul-k-2 : goal.overflow_mul-k-2
overflow_mul-k-2 c =
    let pre = c.requires in
    omega (arith, pre.2)

pub offset_bounds-numbers-k : goal.offset_bounds-numbers-k
offset_bounds-numbers-k c =
    let pre = c.requires in
    omega (arith, pre.2)

pub bounds-numbers-k : goal.bounds-numbers-k
bounds-numbers-k c =
    let pre = c.requires in
    omega (arith, pre.1)

pub overflow_mul-k-then-numbers-k-eq0 : goal.overflow_mul-k-then-numbers-k-eq0
overflow_mul-k-then-numbers-k-eq0 c =
    let pre = c.requires in
    omega (arith, pre.2)

pub overflow_add-k-then-numbers-k-eq0 : goal.overflow_add-k-then-numbers-k-eq0
overflow_add-k-then-numbers-k-eq0 c =
    let pre = c.requires in
    omega (arith, pre.2)

pub place_at-requires-then-numbers-k-eq0 : goal.place_at-requires-then-numbers-k-eq0
place_at-requires-then-numbers-k-eq0 c =
    let pre = c.requires in
    (omega (arith, pre.1), (pre.0.second c.if-numbers-k-eq0.true).fits)

pub note_place-requires-then-numbers-k-eq0 : goal.note_place-requires-then-numbers-k-eq0
note_place-requires-then-numbers-k-eq0 c =
    let pre = c.requires in
    (rw c.place_at-then-numbers-k-eq0.ensures (pre.0.second c.if-numbers-k-eq0.true).place, pre.2)

pub returns-then-numbers-k-eq0 : goal.returns-then-numbers-k-eq0
returns-then-numbers-k-eq0 c =
    let args = c.args in
    let pre = c.requires in
    let place_at = c.place_at in
    let note-place = c.note_place in
    let own = (own-label args.labels.now args.k _ c.told-labels pre.2 refl) in move-noted (reg_info_of args.t.now) args.numbers.now args.k _ _ _ _ _ own.0 own.1 _ _ c.if-numbers-k-eq0.true (rw place_at.ensures at note-place.ensures) (rw c.place_at-then-numbers-k-eq0.ensures at c.note_place-then-numbers-k-eq0.ensures)

pub returns-else-numbers-k-eq0 : goal.returns-else-numbers-k-eq0
returns-else-numbers-k-eq0 c =
    let args = c.args in
    let pre = c.requires in
    let own = (own-label args.labels.now args.k _ c.told-labels pre.2 refl) in remat-noted (reg_info_of args.t.now) args.numbers.now args.k _ _ _ _ _ own.0 own.1 (is-remat (reg_info_of args.t.now) args.numbers.now args.k pre.0 c.if-numbers-k-eq0.false) (rw c.place_at.ensures at c.note_place.ensures)

-- `reopen_source` meets its contract: a rebuild has no source.
use native.Mathlib.Omega.{arith}
use Rattle.reginfo.specs.Table.{reg_info_of}
use Rattle.groups.proofs.Entries.{source-move, source-remat}
use Rattle.groups.proofs.Chain.{reopened-none}
use Rattle.groups.proofs.reopen_source.Goals as goal

pub overflow_mul-k : goal.overflow_mul-k
overflow_mul-k c = omega (arith, c.requires.2)

pub offset_bounds-numbers-k : goal.offset_bounds-numbers-k
offset_bounds-numbers-k c = omega (arith, c.requires.2)

pub bounds-numbers-k : goal.bounds-numbers-k
bounds-numbers-k c = omega (arith, c.requires.1)

pub returns-then-numbers-k-ne0 : goal.returns-then-numbers-k-ne0
returns-then-numbers-k-ne0 c =
    let args = c.args in
    rw (source-remat (reg_info_of args.t.now) args.numbers.now args.k c.requires.0 c.if-numbers-k-ne0.true) (reopened-none args.free.now args.out.now)

pub overflow_mul-k-2 : goal.overflow_mul-k-2
overflow_mul-k-2 c = omega (arith, c.requires.2)

pub overflow_add-k : goal.overflow_add-k
overflow_add-k c = omega (arith, c.requires.2)

pub place_at-requires : goal.place_at-requires
place_at-requires c =
    let pre = c.requires in
    (omega (arith, pre.1), pre.0.first.fits)

pub reopen-requires : goal.reopen-requires
reopen-requires c = rw c.place_at.ensures c.requires.0.first.place.known

pub returns : goal.returns
returns c =
    let args = c.args in
    let pre = c.requires in
    rw (source-move (reg_info_of args.t.now) args.numbers.now args.k pre.0 c.if-numbers-k-ne0.false, ← c.place_at.ensures) c.reopen.ensures

-- `told_clashes` meets its contract: the move decides, if it is kept.
use Prim.Native.Nat.{◌+◌, ◌*◌, ◌%◌}
use mathlib.Core.Path.{◌≡◌, refl, sym, ap, ◌∙◌}
use native.Mathlib.Omega.{arith}
use lib.ListN.{get_or}
use borrow.Author.Tests.{eqb-true}
use Rattle.entity.specs.Place.{reg, slot, place_at}
use Rattle.reginfo.specs.Table.{reg_info_of}
use Rattle.reginfo.proofs.Laws.{by_kind}
use Rattle.entries.proofs.Sources.{none_kept, equal-there, other-there, slot-there}
use Rattle.entries.proofs.index.told_clashes.Goals as goal

pub returns-then-from-m : goal.returns-then-from-m
returns-then-from-m c =
    let s = c in
    let t = reg_info_of s.args.t.now in
    let e = s.args.e.now in
    sym (none_kept t e s.args.r.0 s.args.u.0 s.requires.1 s.requires.0 (omega arith))

pub returns-then-eq : goal.returns-then-eq
returns-then-eq c =
    let s = c in
    let t = reg_info_of s.args.t.now in
    let e = s.args.e.now in
    let there : place_at (get_or e (get_or e (1028 + s.args.u.0) 0 % 128 * 4) 0) ≡ reg c.in-PhysReg.q.0 = rw (← s.requires.2) (sym (by_kind (λ x. x) c.kind.ensures c.in-PhysReg.is)) in
    sym (equal-there t e s.args.r.0 s.args.u.0 s.requires.1 s.requires.0 (reg c.in-PhysReg.q.0) there (omega arith) (ap reg (eqb-true _ _ (sym c.if-eq.ensures))))

pub returns-else-eq : goal.returns-else-eq
returns-else-eq c =
    let s = c in
    let t = reg_info_of s.args.t.now in
    let e = s.args.e.now in
    let there : place_at (get_or e (get_or e (1028 + s.args.u.0) 0 % 128 * 4) 0) ≡ reg c.in-PhysReg.q.0 = rw (← s.requires.2) (sym (by_kind (λ x. x) c.kind.ensures c.in-PhysReg.is)) in
    c.has_unit.ensures ∙ sym (other-there t e s.args.r.0 s.args.u.0 s.requires.1 s.requires.0 (reg c.in-PhysReg.q.0) there (omega arith) (sym c.if-eq.ensures))

pub returns-in-SpillSlot : goal.returns-in-SpillSlot
returns-in-SpillSlot c =
    let s = c in
    let t = reg_info_of s.args.t.now in
    let e = s.args.e.now in
    let there : place_at (get_or e (get_or e (1028 + s.args.u.0) 0 % 128 * 4) 0) ≡ slot c.in-SpillSlot.field-0.0 = rw (← s.requires.2) (sym (by_kind (λ x. x) c.kind.ensures c.in-SpillSlot.is)) in
    sym (slot-there t e s.args.r.0 s.args.u.0 s.requires.1 s.requires.0 (slot c.in-SpillSlot.field-0.0) there (omega arith) c.in-SpillSlot.field-0.0 refl)

-- `reload_read` meets its contract: an odd code is a register and an even one a slot.
use Prim.Native.Nat.{◌%◌, ◌/◌}
use mathlib.Core.Path.{◌≡◌}
use native.Mathlib.Omega.{arith}
use borrow.Author.Tests.{eq-eqb, ne_eqb}
use Rattle.edit.proofs.Laws.{code-kind}
use Rattle.edit.proofs.reload_read.Goals as goal

pub returns-in-PhysReg-SpillSlot : goal.returns-in-PhysReg-SpillSlot
returns-in-PhysReg-SpillSlot c =
    let a = c.args in
    let h = code-kind a.to.0 c.kind.ensures c.in-PhysReg-SpillSlot.is-0 in
    let k = code-kind a.from.0 c.kind-2.ensures c.in-PhysReg-SpillSlot.is-1 in
    let t : a.to.0 / 2 ≡ c.in-PhysReg-SpillSlot.to.0 = omega (arith, h) in
    let f : a.from.0 / 2 ≡ c.in-PhysReg-SpillSlot.from.0 = omega (arith, k) in
    rw (eq-eqb (a.to.0 % 2) 1 (omega (arith, h)), eq-eqb (a.from.0 % 2) 0 (omega (arith, k)), t, f)

pub returns-in_default : goal.returns-in_default
returns-in_default c =
    let a = c.args in
    let h = code-kind a.to.0 c.kind.ensures c.in_default.is-0 in
    let k = code-kind a.from.0 c.kind-2.ensures c.in_default.is-1 in
    rw (eq-eqb (a.to.0 % 2) 1 (omega (arith, h)), ne_eqb (a.from.0 % 2) 0 (λ e. omega (arith, k)))

pub returns-in_default-2 : goal.returns-in_default-2
returns-in_default-2 c =
    let to = c.args.to.0 in
    let h = code-kind to c.kind.ensures c.in_default.is-0 in
    rw (ne_eqb (to % 2) 1 (λ e. omega (arith, h)))

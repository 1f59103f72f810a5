use native.Mathlib.Omega.{arith}
use Rattle.reginfo.proofs.Accepted.{known-members, regs-fit}
use Rattle.scratch.proofs.Outcomes.{found-member, found-stranger}
use Rattle.scratch.proofs.ScratchAllocator.reuse_held.Goals as goal

pub class_has_reg-requires : goal.class_has_reg-requires
class_has_reg-requires c =
    let pre = c.requires in
    let ok = pre.0.checked in
    (known-members _ ok.target ok.indexed _ pre.0.class, omega (arith, pre.1.0, (regs-fit _ ok.target).1))

pub reg-requires : goal.reg-requires
reg-requires c = let pre = c.requires in omega (arith, pre.1.0, (regs-fit _ pre.0.checked.target).1)

pub returns-then-class_has_reg : goal.returns-then-class_has_reg
returns-then-class_has_reg c =
    let pre = c.requires in
    λ available. found-member _ _ _ _ _ _ _ _ _ _ _ c.class_has_reg.ensures _ pre.0.checked pre.1.0 c.reg.ensures c.if-class_has_reg.true

pub evict-requires : goal.evict-requires
evict-requires c = let pre = c.requires in (pre.0, pre.2)

pub returns : goal.returns
returns c =
    λ available. found-stranger _ _ _ _ _ _ _ _ _ _ _ c.class_has_reg.ensures _ _ c.if-class_has_reg.false (c.evict.ensures available)

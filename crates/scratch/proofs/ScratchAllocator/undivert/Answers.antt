-- `scratch::ScratchAllocator::undivert` meets its contract.
use native.Mathlib.Omega.{arith}
use Prim.Native.Nat.{◌-◌}
use mathlib.Core.Path.{ap}
use Rattle.function.proofs.Laws.{few-values}
use Rattle.scratch.proofs.Diversions.{undiverts-more, undiverts-end}
use Rattle.scratch.proofs.ScratchAllocator.undivert.Goals as goal

pub ref_count-left-requires : goal.ref_count-left-requires
ref_count-left-requires c = let pre = c.requires in omega (arith, pre.1, few-values _ _ pre.0.function)

pub overflow_sub-left : goal.overflow_sub-left
overflow_sub-left c = omega (arith, c.ref_count-left.ensures, c.requires.2)

pub set_count-requires : goal.set_count-requires
set_count-requires c =
    let pre = c.requires in
    (omega (arith, pre.1, few-values _ _ pre.0.function), omega (arith, c.ref_count-left.ensures, pre.3))

pub returns-then-left-ne0 : goal.returns-then-left-ne0
returns-then-left-ne0 c = undiverts-more _ _ _ _ _ c.args.d.now _ _ (ap (λ z. z - 1) c.ref_count-left.ensures) c.set_count.ensures _ _ c.if-left-ne0.true

pub end_diversion-requires : goal.end_diversion-requires
end_diversion-requires c = let pre = c.requires in (pre.0, pre.1, rw c.set_count.ensures.scratch-is pre.4, rw c.set_count.ensures.alloc-is pre.5, pre.6)

pub returns : goal.returns
returns c = undiverts-end _ _ _ _ _ c.args.d.now _ _ (ap (λ z. z - 1) c.ref_count-left.ensures) c.set_count.ensures _ _ _ _ c.if-left-ne0.false c.end_diversion.ensures

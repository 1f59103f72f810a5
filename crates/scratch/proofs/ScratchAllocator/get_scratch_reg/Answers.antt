-- `scratch::ScratchAllocator::get_scratch_reg` meets its contract.
use native.Mathlib.Omega.{arith}
use Rattle.reginfo.proofs.Accepted.{regs-fit}
use Rattle.scratch.proofs.Bounds.{stocked}
use Rattle.scratch.proofs.Outcomes.{found-low, found_first, found-failing}
use Rattle.scratch.proofs.ScratchAllocator.get_scratch_reg.Goals as goal

pub reg-requires : goal.reg-requires
reg-requires c =
    let pre = c.requires in
    omega (arith, found-low _ _ _ _ _ _ _ pre.0 pre.2 c.first_usable-found.ensures c.in-Some.is, (regs-fit _ pre.0.target).1)

pub returns-in-Some : goal.returns-in-Some
returns-in-Some c =
    let s = c in
    let a = s.args in
    found_first _ _ _ _ _ _ _ (stocked s.requires.3).put c.meet.ensures _ _ a.cycle a.sources.now _ _ _ s.requires.0 s.requires.2 c.first_usable-found.ensures c.in-Some.is c.reg.ensures

pub or_scratch-requires : goal.or_scratch-requires
or_scratch-requires c = c.requires

pub returns : goal.returns
returns c =
    let a = c.args in
    found-failing _ _ _ _ _ _ _ a.cycle a.sources.now _ _ _ c.first_usable-found.ensures c.in_default.is (c.or_scratch.ensures a.available.now)

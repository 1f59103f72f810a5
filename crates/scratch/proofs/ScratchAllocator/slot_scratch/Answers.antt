-- `scratch::ScratchAllocator::slot_scratch` meets its contract.
use native.Mathlib.Omega.{arith}
use Rattle.reginfo.proofs.Accepted.{known-bank, size_fits}
use Rattle.scratch.proofs.Outcomes.{found-slot}
use Rattle.scratch.proofs.ScratchAllocator.slot_scratch.Goals as goal

pub spillslot_size-requires : goal.spillslot_size-requires
spillslot_size-requires c = let pre = c.requires in known-bank _ pre.0.target _ pre.1

pub acquire-got-requires : goal.acquire-got-requires
acquire-got-requires c =
    let pre = c.requires in
    (pre.0, omega (arith, c.spillslot_size.ensures, size_fits _ pre.0.target _ pre.1), pre.2)

pub spillslot-requires : goal.spillslot-requires
spillslot-requires c = omega (arith, c.acquire-got.ensures.small)

pub returns : goal.returns
returns c = λ edits available. found-slot _ _ _ _ _ _ _ _ _ _ _ _ _ c.spillslot_size.ensures c.acquire-got.ensures c.spillslot.ensures

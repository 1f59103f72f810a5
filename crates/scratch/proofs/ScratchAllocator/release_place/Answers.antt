-- `scratch::ScratchAllocator::release_place` meets its contract.
use Prim.Native.Nat.{◌<◌}
use native.Mathlib.Omega.{arith}
use Rattle.reginfo.proofs.Accepted.{known-bank, size_fits}
use Rattle.slots.proofs.Laws.{fits_more}
use Rattle.scratch.proofs.Outcomes.{released-reg, released-slot}
use Rattle.scratch.proofs.ScratchAllocator.release_place.Goals as goal

pub returns-in_default : goal.returns-in_default
returns-in_default c = λ cache edits available. released-reg _ _ _ _ _ _ _ _ _ _ _ c.kind.ensures c.in_default.is

pub spillslot_size-requires : goal.spillslot_size-requires
spillslot_size-requires c = let pre = c.requires in known-bank _ pre.0.target _ pre.1

pub release-requires : goal.release-requires
release-requires c =
    let pre = c.requires in
    let z : c.spillslot_size.result < 32 = omega (arith, c.spillslot_size.ensures, size_fits _ pre.0.target _ pre.1) in
    (z, fits_more _ 1024 _ (omega arith) pre.3, omega (arith, pre.3.own _ z))

pub returns : goal.returns
returns c =
    let pre = c.requires in
    λ cache edits available. released-slot _ _ _ _ _ _ _ _ _ _ _ _ _ pre.2.small c.kind.ensures c.in-SpillSlot.is c.spillslot_size.ensures c.release.ensures

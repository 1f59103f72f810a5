use native.Mathlib.Omega.{arith}
use Rattle.reginfo.proofs.Accepted.{known-bank, size_fits, regs-fit}
use Rattle.slots.proofs.Laws.{fits_more}
use Rattle.scratch.proofs.Bringing.{back-made}
use Prim.Native.Nat.{◌<◌}
use Rattle.scratch.proofs.ScratchAllocator.bring_back.Goals as goal

pub push_spill-requires : goal.push_spill-requires
push_spill-requires c =
    let pre = c.requires in
    (omega (arith, pre.2.few), pre.1.1, omega (arith, pre.1.0, (regs-fit _ pre.0.target).1))

pub spillslot_size-requires : goal.spillslot_size-requires
spillslot_size-requires c = let pre = c.requires in known-bank _ pre.0.target _ pre.1.2

pub release-requires : goal.release-requires
release-requires c =
    let pre = c.requires in
    let z : c.spillslot_size.result < 32 = omega (arith, c.spillslot_size.ensures, size_fits _ pre.0.target _ pre.1.2) in
    (z, fits_more _ 1024 _ (omega (arith, pre.2.own, pre.2.few)) pre.2.put, omega (arith, pre.2.put.own _ z, pre.2.own, pre.2.few))

pub returns : goal.returns
returns c = back-made _ _ _ _ _ _ _ _ _ c.requires.1 c.push_spill.ensures (rw c.spillslot_size.ensures at c.release.ensures)

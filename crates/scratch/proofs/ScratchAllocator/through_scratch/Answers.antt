-- `scratch::ScratchAllocator::through_scratch` meets its contract.
use native.Mathlib.Omega.{arith}
use Rattle.entity.specs.Place.{place_at}
use Rattle.reginfo.proofs.Accepted.{known-bank, stack-fits}
use Rattle.scratch.proofs.Bounds.{fewer}
use Rattle.scratch.proofs.Outcomes.{moved-through}
use Rattle.scratch.proofs.ScratchAllocator.through_scratch.Goals as goal

pub stack_to_stack_class-c-requires : goal.stack_to_stack_class-c-requires
stack_to_stack_class-c-requires c = known-bank _ c.requires.0.checked.target _ c.requires.0.bank

pub get_scratch_reg-found-requires : goal.get_scratch_reg-found-requires
get_scratch_reg-found-requires c =
    let pre = c.requires in
    let ok = pre.0 in
    (ok.checked, ok.bank, omega (arith, c.stack_to_stack_class-c.ensures, stack-fits _ ok.checked.target _ ok.bank), fewer (omega arith) (omega arith) (omega arith) pre.2)

pub push_move-requires : goal.push_move-requires
push_move-requires c =
    let pre = c.requires in
    let got = c.get_scratch_reg-found.ensures in
    (omega (arith, (got.fits 0 0 2 pre.2).few), record { to-small = pre.0.to-fits.small; from-small = got.place.small; value-small = pre.0.value })

pub push_move-requires-2 : goal.push_move-requires-2
push_move-requires-2 c =
    let pre = c.requires in
    let got = c.get_scratch_reg-found.ensures in
    (omega (arith, c.push_move.ensures.1, (got.fits 0 0 2 pre.2).few), record { to-small = got.place.small; from-small = pre.0.from-fits.small; value-small = pre.0.value })

pub returns : goal.returns
returns c =
    let a = c.args in
    moved-through _ _ _ _ (place_at a.to.0) (place_at a.from.0) _ _ _ _ _ _ _ a.sources.now _ c.requires.1 c.stack_to_stack_class-c.ensures c.get_scratch_reg-found.ensures c.push_move.ensures c.push_move-2.ensures

-- `scratch::ScratchAllocator::end_diversion` meets its contract.
use native.Mathlib.Omega.{arith}
use Rattle.function.proofs.Laws.{known-value, few-values, bank-there}
use Rattle.scratch.proofs.Diversions.{ended}
use Rattle.scratch.specs.Promises.{tables}
use Rattle.slots.proofs.Laws.{fits_more}
use Rattle.scratch.proofs.ScratchAllocator.end_diversion.Goals as goal

pub value_bank-b-requires : goal.value_bank-b-requires
value_bank-b-requires c = known-value _ _ c.requires.0.function _ c.requires.1

pub scratch_of-p-requires : goal.scratch_of-p-requires
scratch_of-p-requires c = let pre = c.requires in omega (arith, pre.1, few-values _ _ pre.0.function)

pub first_of-from-requires : goal.first_of-from-requires
first_of-from-requires c = let pre = c.requires in omega (arith, pre.1, few-values _ _ pre.0.function)

pub do_move-moved-requires : goal.do_move-moved-requires
do_move-moved-requires c =
    let pre = c.requires in
    let bank = c.value_bank-b.ensures in (
      record {
        checked = pre.0;
        bank = rw bank (bank-there _ _ pre.0.function _ pre.1);
        to-fits = rw c.scratch_of-p.ensures pre.2;
        from-fits = rw c.first_of-from.ensures pre.3;
        value = omega (arith, pre.1, few-values _ _ pre.0.function);
      },
      pre.4,
    )

pub release_place-requires : goal.release_place-requires
release_place-requires c =
    let pre = c.requires in
    let left = c.do_move-moved.ensures.fits 0 0 0 pre.4 in
    (pre.0, rw c.value_bank-b.ensures (bank-there _ _ pre.0.function _ pre.1), rw c.scratch_of-p.ensures pre.2, fits_more left.most 1023 _ (omega (arith, left.own, left.few)) left.put)

pub returns : goal.returns
returns c =
    let a = c.args in
    let bank = c.value_bank-b.ensures in
    let moved = c.do_move-moved in
    let e = moved.new.edits in
    let l = moved.new.available in
    ended _ _ _ _ _ a.d.now a.d.now _ moved.result _ _ (tables e l moved.new.slots) _ _ _ c.scratch_of-p.ensures c.first_of-from.ensures
    (rw (← bank) moved.ensures) (rw (← bank) (c.release_place.ensures a.cache.now e l))

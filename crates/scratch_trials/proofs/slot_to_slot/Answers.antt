-- `scratch_trials::slot_to_slot` meets its contract.
use native.Mathlib.Omega.{arith}
use Rattle.function.proofs.Laws.{known-value, few-values, bank-there}
use Rattle.scratch.proofs.Bounds.{fewer}
use Rattle.scratch.specs.Promises.{tables}
use Rattle.scratch_trials.proofs.Laws.{moved-and-brought}
use Rattle.scratch_trials.proofs.slot_to_slot.Goals as goal

pub value_bank-b-requires : goal.value_bank-b-requires
value_bank-b-requires c = known-value _ _ c.requires.0.function _ c.requires.3

pub do_move-moved-requires : goal.do_move-moved-requires
do_move-moved-requires c =
    let pre = c.requires in
    let there = bank-there _ _ pre.0.function _ pre.3 in
    let bank = c.value_bank-b.ensures in
    (record { checked = pre.0; bank = rw bank there; to-fits = pre.1; from-fits = pre.2; value = omega (arith, pre.3, few-values _ _ pre.0.function) }, pre.4)

pub unevict_all-requires : goal.unevict_all-requires
unevict_all-requires c = let pre = c.requires in (pre.0, fewer (omega arith) (omega arith) (omega arith) (c.do_move-moved.ensures.fits 0 0 0 pre.4))

pub returns : goal.returns
returns c =
    let moved = c.do_move-moved in
    let l = moved.new.available in
    moved-and-brought _ _ _ _ _ _ _ _ moved.result _ _ (tables moved.new.edits l moved.new.slots) _ c.value_bank-b.ensures c.requires.4 moved.ensures (c.unevict_all.ensures l)

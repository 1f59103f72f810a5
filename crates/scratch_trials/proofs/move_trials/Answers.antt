-- `scratch_trials::move_trials` meets its contract.
use Rattle.scratch_trials.proofs.move_trials.Goals as goal

pub report_slot_to_slot-requires : goal.report_slot_to_slot-requires
report_slot_to_slot-requires c = let pre = c.requires in let ok = c.ready.ensures c.if-ready.true in (record { target = pre.0; indexed = pre.1; function = ok.0 }, ok.1)

pub report_slots_swapped-requires : goal.report_slots_swapped-requires
report_slots_swapped-requires c = let pre = c.requires in let ok = c.ready.ensures c.if-ready.true in (record { target = pre.0; indexed = pre.1; function = ok.0 }, ok.1)

-- `scratch_trials::report_slot_to_slot` meets its contract.
use native.Mathlib.Omega.{arith}
use Rattle.scratch.proofs.Bounds.{fewer}
use Rattle.scratch_trials.proofs.Laws.{slot-zero, slot-one}
use Rattle.scratch_trials.proofs.report_slot_to_slot.Goals as goal

pub slot_to_slot-requires : goal.slot_to_slot-requires
slot_to_slot-requires c = let pre = c.requires in (pre.0, slot-one _, slot-zero _, omega (arith, pre.1), fewer (omega arith) (omega arith) (omega arith) (c.start-k.ensures.fits _))

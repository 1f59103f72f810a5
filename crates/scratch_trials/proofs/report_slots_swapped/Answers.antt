-- `scratch_trials::report_slots_swapped` meets its contract.
use native.Mathlib.Omega.{arith}
use Rattle.scratch.proofs.Bounds.{fewer}
use mathlib.Core.Path.{refl}
use Rattle.scratch_trials.proofs.Laws.{slot-zero, slot-one}
use Rattle.scratch_trials.proofs.report_slots_swapped.Goals as goal

pub slots_swapped-requires : goal.slots_swapped-requires
slots_swapped-requires c = let pre = c.requires in (pre.0, slot-zero _, slot-one _, omega (arith, pre.1), pre.1, refl, fewer (omega arith) (omega arith) (omega arith) (c.start-k.ensures.fits _))

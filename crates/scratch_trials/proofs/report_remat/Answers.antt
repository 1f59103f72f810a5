-- `scratch_trials::report_rebuild` meets its contract.
use native.Mathlib.Omega.{arith}
use Rattle.scratch.proofs.Bounds.{fewer}
use Rattle.scratch_trials.proofs.Laws.{slot-zero}
use Rattle.scratch_trials.proofs.report_remat.Goals as goal

pub remat-requires : goal.remat-requires
remat-requires c = let pre = c.requires in (pre.0, slot-zero _, omega (arith, pre.1), omega (arith, c.num_classes.ensures, c.if-num_classes-lt2.false), fewer (omega arith) (omega arith) (omega arith) (c.start-k.ensures.fits _))

-- `set_pending` meets its contract.
use Rattle.visits.specs.Marks.{state_at}
use Rattle.visits.proofs.Marks.{state-stored}
use Rattle.visits.proofs.set_pending.Goals as goal

pub returns : goal.returns
unfolding state_at
returns c = state-stored c.args.marks.now c.args.m c.requires 1 c.told-marks

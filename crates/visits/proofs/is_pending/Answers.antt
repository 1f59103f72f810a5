-- `is_pending` meets its contract.
use mathlib.Core.Path.{sym}
use Rattle.visits.proofs.Marks.{pending-state}
use Rattle.visits.proofs.is_pending.Goals as goal

pub returns : goal.returns
returns c = sym (pending-state c.args.marks.now c.args.m c.requires)

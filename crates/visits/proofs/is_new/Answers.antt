-- `is_new` meets its contract.
use mathlib.Core.Path.{sym}
use Rattle.visits.proofs.Marks.{new-state}
use Rattle.visits.proofs.is_new.Goals as goal

pub returns : goal.returns
returns c = sym (new-state c.args.marks.now c.args.m c.requires)

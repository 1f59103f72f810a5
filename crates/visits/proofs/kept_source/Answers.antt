-- `kept_source` meets its contract.
use Rattle.entries.specs.Table.{move_at}
use Rattle.entries.proofs.Table.{kept-is}
use Rattle.visits.proofs.kept_source.Goals as goal

pub returns : goal.returns
unfolding move_at
returns c = rw (kept-is c.args.e.now c.args.m c.requires.0)

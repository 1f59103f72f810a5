-- `open_tables` meets its contract.
use Rattle.job_rules.specs.Job.{beginning}
use Rattle.calls.specs.Opening.{opened}
use Rattle.calls.proofs.open_tables.Goals as goal

pub returns : goal.returns
unfolding opened
returns c = let a = c.args in c.at_end.ensures (beginning a.kept_evictions a.s.now) _ _ c.read_beginning.ensures

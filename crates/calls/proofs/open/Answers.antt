-- `open` meets its contract.
use Rattle.calls.specs.Opening.{opened}
use Rattle.calls.proofs.open.Goals as goal

pub returns : goal.returns
returns c = let a = c.args in c.cleared.ensures (opened a.kept_evictions a.s.now) _ _ c.open_tables.ensures

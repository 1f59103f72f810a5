-- `is_full` meets its contract.
use Rattle.entries.proofs.Table.{entries-count}
use Rattle.entries.proofs.is_full.Goals as goal

pub returns : goal.returns
returns c = rw (c.from.ensures, entries-count c.args.e.now)

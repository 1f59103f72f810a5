-- `num_kept` meets its contract.
use mathlib.Core.Path.{sym, ◌∙◌}
use Rattle.entries.proofs.Table.{kept-count}
use Rattle.visits.proofs.num_kept.Goals as goal

pub returns : goal.returns
returns c = c.from.ensures ∙ sym (kept-count c.args.e.now)

-- `num_remats` meets its contract.
use mathlib.Core.Path.{sym, ◌∙◌}
use Rattle.entries.proofs.Table.{remats-count}
use Rattle.visits.proofs.num_remats.Goals as goal

pub returns : goal.returns
returns c = c.from.ensures ∙ sym (remats-count c.args.e.now)

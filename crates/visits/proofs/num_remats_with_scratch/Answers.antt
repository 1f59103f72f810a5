-- `num_remats_with_scratch` meets its contract.
use mathlib.Core.Path.{sym, ◌∙◌}
use Rattle.entries.proofs.Table.{scratch-count}
use Rattle.visits.proofs.num_remats_with_scratch.Goals as goal

pub returns : goal.returns
returns c = c.from.ensures ∙ sym (scratch-count c.args.e.now)

-- `num_values` meets its contract.
use mathlib.Core.Path.{◌∙◌, sym}
use Rattle.function.proofs.Table.{values-count}
use Rattle.function.proofs.num_values.Goals as goal

pub returns : goal.returns
returns c = c.from.ensures ∙ sym (values-count c.args.f.now)

-- `num_slots` meets its contract.
use mathlib.Core.Path.{◌∙◌, sym}
use Rattle.function.proofs.Table.{slots-count}
use Rattle.function.proofs.num_slots.Goals as goal

pub returns : goal.returns
returns c = c.from.ensures ∙ sym (slots-count c.args.f.now)

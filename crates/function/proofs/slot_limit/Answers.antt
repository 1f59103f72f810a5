-- `slot_limit` meets its contract.
use mathlib.Core.Path.{◌∙◌, sym}
use Rattle.function.proofs.Table.{limit_is}
use Rattle.function.proofs.slot_limit.Goals as goal

pub returns : goal.returns
returns c = c.from.ensures ∙ sym (limit_is c.args.f.now)

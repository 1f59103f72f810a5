-- `kept_evictions` meets its contract.
use mathlib.Core.Path.{◌∙◌, sym}
use Rattle.function.proofs.Table.{kept-is}
use Rattle.function.proofs.kept_evictions.Goals as goal

pub returns : goal.returns
returns c = c.from.ensures ∙ sym (kept-is c.args.f.now)

-- `num_banks` meets its contract: a cell of the table.
use mathlib.Core.Path.{◌∙◌, sym}
use Rattle.reginfo.proofs.Table.{banks-count}
use Rattle.reginfo.proofs.num_banks.Goals as goal

pub returns : goal.returns
returns c = c.from.ensures ∙ sym (banks-count c.args.t.now)

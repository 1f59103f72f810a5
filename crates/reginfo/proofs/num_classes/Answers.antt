-- `num_classes` meets its contract: a cell of the table.
use mathlib.Core.Path.{◌∙◌, sym}
use Rattle.reginfo.proofs.Table.{classes-count}
use Rattle.reginfo.proofs.num_classes.Goals as goal

pub returns : goal.returns
returns c = c.from.ensures ∙ sym (classes-count c.args.t.now)

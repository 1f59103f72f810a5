-- `num_units` meets its contract: a cell of the table.
use mathlib.Core.Path.{◌∙◌, sym}
use Rattle.reginfo.proofs.Table.{units-count}
use Rattle.reginfo.proofs.num_units.Goals as goal

pub returns : goal.returns
returns c = c.from.ensures ∙ sym (units-count c.args.t.now)

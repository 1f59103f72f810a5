-- `num_regs` meets its contract: a cell of the table.
use mathlib.Core.Path.{◌∙◌, sym}
use Rattle.reginfo.proofs.Table.{regs_count}
use Rattle.reginfo.proofs.num_regs.Goals as goal

pub returns : goal.returns
returns c = c.from.ensures ∙ sym (regs_count c.args.t.now)

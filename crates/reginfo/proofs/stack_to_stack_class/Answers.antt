-- `stack_to_stack_class` meets its contract: a cell of the table.
use Rattle.reginfo.proofs.Table.{stack_is}
use Rattle.reginfo.proofs.stack_to_stack_class.Goals as goal

pub returns : goal.returns
returns c = rw (stack_is c.args.t.now c.args.b.0 c.requires.is, c.from-i.ensures)

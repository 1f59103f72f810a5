-- `is_memory_reg` meets its contract: a cell of the table.
use Rattle.reginfo.proofs.Table.{memory-is}
use Rattle.reginfo.proofs.is_memory_reg.Goals as goal

pub returns : goal.returns
returns c = rw (c.from.ensures, memory-is c.args.t.now c.args.r.0 c.requires.is, c.from-i.ensures)

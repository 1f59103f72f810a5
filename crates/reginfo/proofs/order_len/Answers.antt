-- `order_len` meets its contract: a cell of the table.
use Rattle.reginfo.proofs.Table.{order-length}
use Rattle.reginfo.proofs.order_len.Goals as goal

pub returns : goal.returns
returns c = rw (c.from.ensures, order-length c.args.t.now c.args.c.0 c.requires.is, c.from-i.ensures)

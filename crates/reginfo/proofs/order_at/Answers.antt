-- `order_at` meets its contract: a cell of the table.
use Rattle.reginfo.proofs.Table.{order-at-is}
use Rattle.reginfo.proofs.order_at.Goals as goal

pub returns : goal.returns
returns c = rw (order-at-is c.args.t.now c.args.c.0 c.requires.0.is c.args.p c.requires.1, c.from-i.ensures)

-- `bank_for_class` meets its contract: a cell of the table.
use Rattle.reginfo.proofs.Table.{class-bank-is}
use Rattle.reginfo.proofs.bank_for_class.Goals as goal

pub returns : goal.returns
returns c = rw (class-bank-is c.args.t.now c.args.c.0 c.requires.is, c.from-i.ensures)

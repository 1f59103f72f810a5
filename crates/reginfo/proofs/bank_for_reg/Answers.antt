-- `bank_for_reg` meets its contract: a cell of the table.
use Rattle.reginfo.proofs.Table.{reg-bank-is}
use Rattle.reginfo.proofs.bank_for_reg.Goals as goal

pub returns : goal.returns
returns c = rw (reg-bank-is c.args.t.now c.args.r.0 c.requires.is, c.from-i.ensures)

-- `reg_unit` meets its contract: a cell of the table.
use Rattle.reginfo.proofs.Table.{unit-is}
use Rattle.reginfo.proofs.reg_unit.Goals as goal

pub returns : goal.returns
returns c = rw (unit-is c.args.t.now c.args.r.0 c.requires.0.is c.args.j c.requires.1, c.from-i.ensures)

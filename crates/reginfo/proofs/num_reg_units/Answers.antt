-- `num_reg_units` meets its contract: a cell of the table.
use Rattle.reginfo.proofs.Table.{units-length}
use Rattle.reginfo.proofs.num_reg_units.Goals as goal

pub returns : goal.returns
returns c = rw (c.from.ensures, units-length c.args.t.now c.args.r.0 c.requires.is, c.from-i.ensures)

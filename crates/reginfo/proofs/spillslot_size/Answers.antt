-- `spillslot_size` meets its contract: a cell of the table.
use Rattle.reginfo.proofs.Table.{size_is}
use Rattle.reginfo.proofs.spillslot_size.Goals as goal

pub returns : goal.returns
returns c = rw (c.from.ensures, size_is c.args.t.now c.args.b.0 c.requires.is, c.from-i.ensures)

-- `top_level_class` meets its contract: a cell of the table.
use Rattle.reginfo.proofs.Table.{top-is}
use Rattle.reginfo.proofs.top_level_class.Goals as goal

pub returns : goal.returns
returns c = rw (top-is c.args.t.now c.args.b.0 c.requires.is, c.from-i.ensures)

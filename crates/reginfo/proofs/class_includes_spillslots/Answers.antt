-- `class_includes_spillslots` meets its contract: a cell of the table.
use Rattle.reginfo.proofs.Table.{slots-is}
use Rattle.reginfo.proofs.class_includes_spillslots.Goals as goal

pub returns : goal.returns
returns c = rw (c.from.ensures, slots-is c.args.t.now c.args.c.0 c.requires.is, c.from-i.ensures)

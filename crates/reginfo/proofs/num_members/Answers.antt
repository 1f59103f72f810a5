-- `num_members` meets its contract: a cell of the table.
use Rattle.reginfo.proofs.Table.{members-length}
use Rattle.reginfo.proofs.num_members.Goals as goal

pub returns : goal.returns
returns c = rw (c.from.ensures, members-length c.args.t.now c.args.c.0 c.requires.is, c.from-i.ensures)

-- `class_member` meets its contract: a cell of the table.
use Rattle.reginfo.proofs.Table.{member_is}
use Rattle.reginfo.proofs.class_member.Goals as goal

pub returns : goal.returns
returns c = rw (member_is c.args.t.now c.args.c.0 c.requires.0.is c.args.p c.requires.1, c.from-i.ensures)

-- The flag stands in the second cell of a class.
use Rattle.reginfo.proofs.Table.{slots-is}
use Rattle.target_limits.proofs.slots_flag.Goals as goal

pub returns : goal.returns
returns c =
    let start = c in
    rw (c.from.ensures, slots-is start.args.t.now start.args.c.0 start.requires.is, c.from-i.ensures)

-- The flag stands in the first cell of a register.
use Rattle.reginfo.proofs.Table.{memory-is}
use Rattle.target_limits.proofs.memory_flag.Goals as goal

pub returns : goal.returns
returns c =
    let start = c in
    rw (c.from.ensures, memory-is start.args.t.now start.args.r.0 start.requires.is, c.from-i.ensures)

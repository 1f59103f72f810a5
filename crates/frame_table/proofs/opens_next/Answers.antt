use native.Mathlib.Omega.{arith}
use Rattle.frame_table.proofs.Laws.{past-the-shares, slot-made, next-is}
use Rattle.frame_table.proofs.opens_next.Goals as goal

pub returns-then-from-i : goal.returns-then-from-i
returns-then-from-i c =
    let start = c in
    past-the-shares start.args.frame.now start.args.i (omega (arith, c.from.ensures, c.if-from-i.true))

pub returns-then-frame-ne0 : goal.returns-then-frame-ne0
returns-then-frame-ne0 c =
    let start = c in
    slot-made start.args.frame.now start.args.i (omega (arith, c.from.ensures, c.if-from-i.false)) c.if-frame-ne0.true

pub returns : goal.returns
returns c =
    let start = c in
    rw c.from-2.ensures (next-is start.args.frame.now start.args.i (omega (arith, c.from.ensures, c.if-from-i.false)) c.if-frame-ne0.false)

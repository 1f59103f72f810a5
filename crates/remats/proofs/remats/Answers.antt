use native.Mathlib.Omega.{arith}
use Rattle.remats.proofs.Direct.{rematting-step, rematting-end}
use Rattle.remats.proofs.remats.Goals as goal

pub loop-i-preserved : goal.loop-i-preserved
loop-i-preserved c =
    let l = c.loop-i in
    rematting-step _ _ _ _ _ l.i l.q l.edits l.available _ _ _ l.invariant (omega arith) c.remat-q.ensures

pub returns : goal.returns
returns c = let l = c.loop-i in rematting-end _ _ _ _ _ l.i _ _ _ l.invariant (omega arith)

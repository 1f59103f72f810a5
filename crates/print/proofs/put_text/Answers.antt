use native.Mathlib.Omega.{arith}
use Rattle.print.proofs.Putting.{one-copied}
use Rattle.print.proofs.put_text.Goals as goal

pub loop-i-preserved : goal.loop-i-preserved
loop-i-preserved c = let l = c.loop-i in one-copied _ _ _ c.requires l.out l.i l.invariant (omega arith)

use native.Mathlib.Omega.{arith}
use Rattle.cells.proofs.Laws.{stored}
use Rattle.cells.proofs.store.Goals as goal

pub returns : goal.returns
returns c = let s = c in let l = c.loop-j in stored s.args.c.now l.c s.args.b.now s.args.to l.j (omega (arith, l.invariant.5)) l.invariant.1 l.invariant.2 l.invariant.3

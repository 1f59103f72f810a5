use native.Mathlib.Omega.{arith}
use Rattle.cells.proofs.Laws.{words_are, count-is}
use Rattle.cells.proofs.load.Goals as goal

pub returns : goal.returns
returns c = let s = c in let l = c.loop-j in (words_are l.b s.args.c.now s.args.from s.args.n l.invariant.0 (λ k h. l.invariant.1 k (omega arith)), count-is l.b s.args.n l.invariant.0)

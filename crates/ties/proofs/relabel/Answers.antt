use native.Mathlib.Omega.{arith}
use Rattle.ties.proofs.Laws.{relabelled}
use Rattle.ties.proofs.relabel.Goals as goal

pub returns : goal.returns
returns c = let s = c in let l = c.loop-j in (relabelled s.args.a s.args.b s.args.x.now l.x s.args.n (λ k h. l.invariant.1 k (omega arith)), l.invariant.3)

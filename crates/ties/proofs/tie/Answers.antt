use mathlib.Core.Path.{◌≡◌, subst}
use native.Mathlib.Omega.{arith}
use Rattle.ties.specs.Ties.{kept}
use Rattle.ties.proofs.Laws.{Joining, joining-start, joining-next, joining-end}
use Rattle.ties.proofs.tie.Goals as goal

pub loop-i-init : goal.loop-i-init
loop-i-init c = let o = c.note.ensures in (joining-start _ _ o.0 o.1, omega arith, c.kept-n.ensures)

pub loop-i-preserved : goal.loop-i-preserved
loop-i-preserved c = let s = c in let l = c.loop-i in (joining-next s.args.e.now s.requires l.x _ l.i (omega (arith, l.invariant.2)) l.invariant.0 c.tie_one.ensures, omega (arith, l.invariant.2), l.invariant.2)

pub returns : goal.returns
returns c = let s = c in let l = c.loop-i in let z : l.i ≡ kept s.args.e.now = omega (arith, l.invariant.2) in joining-end s.args.e.now s.requires l.x (subst (Joining s.args.e.now l.x) z l.invariant.0)

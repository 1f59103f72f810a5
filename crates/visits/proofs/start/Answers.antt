use Prim.Native.Nat.{ℕ}
use mathlib.Core.Path.{refl, sym, ◌∙◌}
use native.Mathlib.Omega.{arith}
use lib.ListN.{get_or, length-set}
use Rattle.rules.specs.Order.{no_move}
use Rattle.visits.specs.Marks.{moves_of}
use Rattle.visits.proofs.Marks.{nothing-marked, zeros-step, uncounted-step, uncounted-end}
use Rattle.visits.proofs.start.Goals as goal

pub loop-i-preserved : goal.loop-i-preserved
loop-i-preserved c =
    let s = c in
    let l = c.loop-i in
    let e = c.from-at.ensures ∙ c.kept_value-v.ensures in
    (simp length-set l.invariant.0, zeros-step l.d c.from-at.result l.i (λ (k : ℕ). (get_or (moves_of s.args.e.now) k no_move).value) e (omega (arith, s.requires.values l.i (omega arith))) l.invariant.1, omega arith, l.invariant.3 ∙ uncounted-step (moves_of s.args.e.now) l.d l.i c.from-at.result (omega arith) e)

pub returns : goal.returns
returns c =
    let l = c.loop-i in
    (nothing-marked.0, nothing-marked.1, (λ i h. l.invariant.1 i (omega arith)), refl, sym (l.invariant.3 ∙ uncounted-end _ l.d l.i (omega arith)))

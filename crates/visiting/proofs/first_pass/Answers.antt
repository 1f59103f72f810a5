use mathlib.Core.Path.{sym, ◌∙◌}
use native.Mathlib.Omega.{arith}
use Rattle.visits.proofs.Carrying.{no_true}
use Rattle.visiting.proofs.Passing.{first-old, first-paid-here, passing_step, passing-end}
use Rattle.visiting.proofs.first_pass.Goals as goal

pub loop-m-preserved-then-not-is_new : goal.loop-m-preserved-then-not-is_new
loop-m-preserved-then-not-is_new c =
    let s = c in
    passing_step _ _ _ _ _ _ _ _ _ _ c.loop-m.invariant (omega (arith, c.num_kept-n.ensures)) (first-paid-here _ _ s.args.cache.now _ s.requires.0.moves) _ _
    (first-old _ _ _ _ _ _ _ (sym c.is_new.ensures ∙ no_true c.is_new.result c.if-not-is_new.true-raw))

pub loop-m-preserved : goal.loop-m-preserved
loop-m-preserved c =
    let s = c in
    passing_step _ _ _ _ _ _ _ _ _ _ c.loop-m.invariant (omega (arith, c.num_kept-n.ensures)) (first-paid-here _ _ s.args.cache.now _ s.requires.0.moves) _ _
    c.visit_unless_memory-q.ensures

pub returns : goal.returns
returns c = passing-end _ _ _ _ _ _ _ _ _ _ c.loop-m.invariant (omega (arith, c.num_kept-n.ensures))

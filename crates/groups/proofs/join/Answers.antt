use mathlib.Core.Path.{refl, ◌∙◌}
use native.Mathlib.Omega.{arith}
use Rattle.entity.proofs.Laws.{least}
use Rattle.groups.proofs.Tables.{renaming-more}
use Rattle.groups.proofs.join.Goals as goal

pub loop-i-init : goal.loop-i-init
loop-i-init c = record { most = omega arith; long = c.told-labels; done = λ j h. absurd (omega arith); left = λ j h. refl }

pub loop-i-preserved : goal.loop-i-preserved
loop-i-preserved c = let l = c.loop-i in renaming-more _ _ _ l.labels l.i _ (omega (arith, c.loop-i-test.true)) (rw (← c.min-low.ensures ∙ least c.args.a c.args.b) c.relabelled.ensures) l.invariant

pub returns : goal.returns
returns c = let l = c.loop-i in λ i h. l.invariant.done i (omega (arith, c.loop-i-test.false, h))

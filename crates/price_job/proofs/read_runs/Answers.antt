use Prim.Native.Nat.{◌-◌, ◌≤◌}
use mathlib.Core.Path.{◌≡◌, refl, sym, ◌∙◌}
use native.Mathlib.Omega.{arith}
use lib.ListN.{length, length-set}
use lib.Seq.{length-take-le}
use borrow.Author.Rules.{rules}
use Rattle.price_job.proofs.read_runs.Goals as goal

pub returns-then-given-n : goal.returns-then-given-n
returns-then-given-n g c = let w : c.loop-n.n ≤ length c.loop-n.runs = omega (arith, c.loop-n.invariant, c.loop-n-test.true) in (w, sym (length-take-le _ _ w))

pub loop-n-preserved : goal.loop-n-preserved
loop-n-preserved g c = rw (length-set _ _ _) c.loop-n.invariant

pub returns : goal.returns
returns g c = (omega arith, sym (length-take-le _ _ (omega arith)))

use mathlib.Core.Path.{◌≡◌, ◌∙◌}
use native.Mathlib.Omega.{arith}
use lib.ListN.{length-set}
use Rattle.slots.proofs.Laws.{zero_more, stamp-set, cleared}
use Rattle.slots.proofs.clear.Goals as goal

pub loop-z-preserved : goal.loop-z-preserved
loop-z-preserved c =
    let l = c.loop-z in
    (simp length-set l.invariant.0, zero_more l.cache l.z (omega (arith, c.told-cache)) l.invariant.1, stamp-set l.cache l.z 0 (λ g e. omega arith) ∙ l.invariant.2)

pub returns : goal.returns
returns c =
    let l = c.loop-z in
    let e : l.z ≡ 32 = omega arith in
    cleared _ l.cache _ (rw e at l.invariant.1) l.invariant.2 c.raise.ensures

use Prim.Native.Nat.{◌+◌, ◌-◌}
use mathlib.Core.Path.{◌≡◌, sym, ap, ◌∙◌}
use native.Mathlib.Omega.{arith}
use Rattle.entity.specs.Logic.{indices}
use Rattle.small_set.specs.Set.{set_of}
use Rattle.rules.specs.Edit.{filter}
use Rattle.rules.specs.Counts.{bit}
use Rattle.machine.specs.Enough.{sizes_that}
use Rattle.enough_slots.proofs.Laws.{count-step}
use Rattle.enough_slots.proofs.num_marked.Goals as goal
use Rattle.enough_slots.proofs.num_marked.Goals.{then-marked, else-marked}

pub loop-marked-init : goal.loop-marked-init
unfolding sizes_that
loop-marked-init c = (omega arith, omega arith, omega arith)

pub loop-marked-preserved : goal.loop-marked-preserved
unfolding bit set_of
loop-marked-preserved c =
    let sizes = c.args.sizes.now in
    let turn = c.loop-marked in
    let one_less : 32 - turn.marked-index - 1 ≡ 32 - (turn.marked-index + 1) = omega arith in
    let step = rw one_less at (count-step (set_of sizes) turn.marked-index (32 - turn.marked-index) (omega arith)) in
    elim c.if-marked.branch [
      | then-marked w ↦ (omega (arith, turn.invariant.0, step, ap bit w.if-marked.true, w.n-is), omega arith, omega arith)
      | else-marked w ↦ (omega (arith, turn.invariant.0, step, ap bit w.if-marked.false, w.n-is), omega arith, omega arith)
    ]

pub returns : goal.returns
unfolding filter indices
returns c =
    let turn = c.loop-marked in
    let e : 32 - turn.marked-index ≡ 0 = omega arith in
    sym (turn.invariant.0 ∙ rw e (omega arith))

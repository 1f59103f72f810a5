use mathlib.Core.Path.{◌≡◌}
use native.Mathlib.Omega.{arith}
use Rattle.grouping.proofs.Copying.{copies-start, copies-more, copies-end}
use Rattle.grouping.proofs.copy_stacks.Goals as goal

pub loop-z-init : goal.loop-z-init
loop-z-init c = (omega arith, copies-start _ _)

pub copy_stack-requires : goal.copy_stack-requires
copy_stack-requires c = (c.requires, c.loop-z-test.true)

pub loop-z-preserved : goal.loop-z-preserved
loop-z-preserved c =
    let loop-test = c.loop-z-test in
    let l = c.loop-z in (omega (arith, loop-test.true), copies-more _ _ c.requires _ _ l.z loop-test.true c.copy_stack.ensures l.invariant.1)

pub returns : goal.returns
returns c = let l = c.loop-z in let e : l.z ≡ 32 = omega (arith, l.invariant.0, c.loop-z-test.false) in copies-end _ _ c.requires l.to (rw e at l.invariant.1)

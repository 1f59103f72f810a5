use native.Mathlib.Omega.{arith}
use Rattle.frame.proofs.Running.{goes_first}
use Rattle.frame.proofs.run.Goals as goal

pub loop-p-init : goal.loop-p-init
loop-p-init c =
    let a = c.args in
    goes_first a.frame.now a.t1.now a.f1.now a.cache1.now _ a.t2.now a.f2.now a.cache2.now _ a.s.now a.from c.requires

pub next_call-p-requires : goal.next_call-p-requires
next_call-p-requires c = (c.loop-p.invariant, c.loop-p-test.true)

pub loop-p-smaller : goal.loop-p-smaller
loop-p-smaller c = omega (arith, c.next_call-p.ensures.1, c.loop-p-test.true)

pub loop-p-preserved : goal.loop-p-preserved
loop-p-preserved c = c.next_call-p.ensures.0

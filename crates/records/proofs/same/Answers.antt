use native.Mathlib.Omega.{arith}
use mathlib.Core.Path.{refl}
use Rattle.records.proofs.Comparing.{lengths_differ, all_same, one_more, one-differs}
use Rattle.records.proofs.same.Goals as goal

pub returns-then-a-b : goal.returns-then-a-b
returns-then-a-b c = lengths_differ c.args.a.now c.args.b.now c.if-a-b.true

pub loop-i-init : goal.loop-i-init
loop-i-init c = (omega arith, refl)

pub bounds-b-i : goal.bounds-b-i
bounds-b-i c = omega (arith, c.loop-i-test.true, c.if-a-b.false)

pub returns-then-a-i : goal.returns-then-a-i
returns-then-a-i c =
    let a = c.args in
    let l = c.loop-i in
    let t = c.loop-i-test.true in
    one-differs a.a.now a.b.now l.i l.invariant.1 t (omega (arith, t, c.if-a-b.false)) c.if-a-i.true

pub loop-i-smaller : goal.loop-i-smaller
loop-i-smaller c = omega (arith, c.loop-i-test.true)

pub loop-i-preserved : goal.loop-i-preserved
loop-i-preserved c =
    let a = c.args in
    let l = c.loop-i in
    let t = c.loop-i-test.true in
    (omega (arith, t), one_more a.a.now a.b.now l.i l.invariant.1 t (omega (arith, t, c.if-a-b.false)) c.if-a-i.false)

pub returns : goal.returns
returns c =
    let a = c.args in
    let l = c.loop-i in
    all_same a.a.now a.b.now l.i l.invariant.1 c.if-a-b.false (omega (arith, c.loop-i-test.false))

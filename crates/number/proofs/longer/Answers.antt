use Prim.Native.Nat.{◌+◌, ◌-◌}
use native.Mathlib.Omega.{arith}
use mathlib.Core.Path.{◌≡◌}
use Rattle.number.proofs.Reading.{begun, cut_off, over-long, stepped, last}
use Rattle.number.proofs.longer.Goals as goal

pub loop-group-init : goal.loop-group-init
loop-group-init c = let a = c in begun _ _ _ c.from-n.ensures a.requires.0 a.requires.1

pub returns-then-s-next : goal.returns-then-s-next
returns-then-s-next c = cut_off _ _ _ _ _ _ c.loop-group.invariant c.if-s-next.true

pub returns-then-b-lt128 : goal.returns-then-b-lt128
returns-then-b-lt128 c =
    let l = c.loop-group in
    rw c.ended.ensures (last _ _ _ _ _ _ l.invariant (omega arith) _ c.from-b.ensures c.if-s-next.false c.if-b-lt128.true)

pub loop-group-preserved : goal.loop-group-preserved
loop-group-preserved c =
    let l = c.loop-group in
    let e : 4 - (l._group + 1) ≡ 4 - l._group - 1 = omega arith in
    rw e (stepped _ _ _ _ _ _ l.invariant (omega arith) _ c.from-b.ensures c.if-s-next.false c.if-b-lt128.false)

pub returns : goal.returns
returns c = over-long _ _ _ _ _ _ c.loop-group.invariant (omega arith)

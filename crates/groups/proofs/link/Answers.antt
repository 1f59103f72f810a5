use mathlib.Core.Path.{◌≡◌, refl}
use native.Mathlib.Omega.{arith}
use Prim.Native.Nat.{◌+◌, ◌-◌}
use lib.ListN.{get_or}
use Rattle.groups.proofs.Tables.{linking-start, linking-more, linking-end, filled}
use Rattle.groups.proofs.link.Goals as goal

pub loop-i-init : goal.loop-i-init
loop-i-init c = linking-start _ _ _ _ c.told-next refl (filled 128 255)

pub bounds-labels-i : goal.bounds-labels-i
bounds-labels-i c = let l = c.loop-i in omega (arith, l.invariant.most, c.loop-i-test.true, c.requires.0)

pub bounds-heads-g : goal.bounds-heads-g
bounds-heads-g c =
    let pre = c.requires in
    let l = c.loop-i in omega (arith, c.from-g.ensures, pre.1 (l.i - 1) (omega (arith, l.invariant.most, c.loop-i-test.true)))

pub bounds-next-i : goal.bounds-next-i
bounds-next-i c =
    let pre = c.requires in
    let l = c.loop-i in omega (arith, l.invariant.most, c.loop-i-test.true, pre.0)

pub bounds-heads-g-in-loop-i : goal.bounds-heads-g-in-loop-i
bounds-heads-g-in-loop-i c =
    let pre = c.requires in
    let l = c.loop-i in omega (arith, c.from-g.ensures, pre.1 (l.i - 1) (omega (arith, l.invariant.most, c.loop-i-test.true)))

pub loop-i-preserved : goal.loop-i-preserved
loop-i-preserved c =
    let pre = c.requires in
    let loop-test = c.loop-i-test in
    let args = c.args in
    let l = c.loop-i in let p = pre in let low = pre.1 (l.i - 1) (omega (arith, l.invariant.most, loop-test.true)) in let e : l.i - 1 + 1 ≡ l.i = omega (arith, loop-test.true) in linking-more args.labels.now args.n l.next l.heads (l.i - 1) c.from-g.result (get_or l.heads c.from-g.result 0) _ p.0 (omega (arith, l.invariant.most, loop-test.true)) c.from-g.ensures (omega (arith, c.from-g.ensures, low)) refl refl (rw e l.invariant)

pub returns : goal.returns
returns c = let l = c.loop-i in let e : l.i ≡ 0 = omega (arith, c.loop-i-test.false) in linking-end _ _ _ l.heads (rw e at l.invariant)

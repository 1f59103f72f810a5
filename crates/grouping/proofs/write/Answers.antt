use mathlib.Core.Path.{◌≡◌, refl}
use native.Mathlib.Omega.{arith}
use lib.ListN.{length-set}
use Rattle.grouping.proofs.Copying.{written-more}
use Rattle.grouping.proofs.write.Goals as goal

pub loop-i-init : goal.loop-i-init
loop-i-init c = (omega arith, refl, refl)

pub bounds-words-i : goal.bounds-words-i
bounds-words-i c = omega (arith, c.requires.0, c.loop-i-test.true)

pub bounds-list-i : goal.bounds-list-i
bounds-list-i c = let l = c.loop-i in omega (arith, l.invariant.1, c.requires.1, c.loop-i-test.true)

pub loop-i-preserved : goal.loop-i-preserved
loop-i-preserved c =
    let args = c.args in
    let pre = c.requires in
    let l = c.loop-i in (omega (arith, c.loop-i-test.true), simp length-set l.invariant.1, written-more args.words.now args.list.now l.list l.i _ (omega (arith, pre.0, c.loop-i-test.true)) (omega (arith, pre.1, c.loop-i-test.true)) refl l.invariant.2)

pub shape_of-list : goal.shape_of-list
shape_of-list c = let l = c.loop-i in l.invariant.1

pub returns : goal.returns
returns c = let l = c.loop-i in let e : l.i ≡ c.args.n = omega (arith, l.invariant.0, c.loop-i-test.false) in rw (← e) l.invariant.2

use Prim.Native.Nat.{◌+◌, ◌*◌, ◌-◌, ◌≤◌}
use native.Mathlib.Omega.{arith}
use mathlib.Core.Path.{◌≡◌, refl}
use borrow.Author.Rules.{rules}
use lib.ListN.{length, drop, get_or}
use Rattle.price.specs.Price.{total_of}
use Rattle.price.proofs.Laws.{price-small, one_more, none_left}
use Rattle.price.proofs.total.Goals as goal

pub overflow_add-sum : goal.overflow_add-sum
overflow_add-sum c =
    let s = c in
    omega (arith, price-small s.args.p (get_or s.args.list.now c.loop-i.i 0) s.requires.0, c.price_in-sum.ensures)

pub loop-i-preserved : goal.loop-i-preserved
loop-i-preserved c =
    let s = c in
    let l = c.loop-i in
    let i = c.loop-i-test.true in
    let e = one_more s.args.p s.args.list.now l.i i in
    (omega (arith, e, c.price_in-sum.ensures, l.invariant.0), omega (arith, price-small s.args.p (get_or s.args.list.now c.loop-i.i 0) s.requires.0, c.price_in-sum.ensures), omega arith)

pub returns : goal.returns
returns c =
    let s = c in
    omega (arith, none_left s.args.p s.args.list.now c.loop-i.i c.loop-i-test.false, c.loop-i.invariant.0)

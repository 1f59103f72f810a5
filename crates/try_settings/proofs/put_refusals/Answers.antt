use native.Mathlib.Omega.{arith}
use borrow.Author.Rules.{rules}
use Rattle.print.proofs.Putting as putting
use Rattle.try_settings.proofs.Laws.{Refusing, refusing-start, refusing-step, refusing-end}
use Rattle.try_settings.proofs.put_refusals.Goals as goal

pub loop-j-init : goal.loop-j-init
loop-j-init c = refusing-start _ _ _ _ (omega (arith, c.requires))

pub put_refusal-at-requires : goal.put_refusal-at-requires
put_refusal-at-requires c =
    let s = c in
    let l = c.loop-j in
    (c.loop-j-test.true, omega (arith, l.invariant.low, c.loop-j-test.true, putting.same_length l.invariant.put, s.requires))

pub loop-j-preserved : goal.loop-j-preserved
loop-j-preserved c =
    let l = c.loop-j in
    refusing-step _ _ _ l.out _ _ l.at l.j _ l.invariant c.put_refusal-at.ensures

pub shape_of-out : goal.shape_of-out
shape_of-out c = putting.same_length c.loop-j.invariant.put

pub returns : goal.returns
returns c = let l = c.loop-j in refusing-end _ _ _ l.out _ l.at l.j l.invariant (omega (arith, c.loop-j-test.false))

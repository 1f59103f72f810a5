use Prim.Native.Nat.{◌+◌, ◌-◌}
use mathlib.Core.Path.{◌≡◌, sym, ap, ◌∙◌}
use mathlib.Core.Bool.{Bool}
use native.Mathlib.Omega.{arith}
use borrow.Author.Tests.{eq-eqb, ne_eqb}
use Rattle.entity.specs.Logic.{and, cells}
use Rattle.examine_rules.specs.Examine.{same_words}
use Rattle.examine.proofs.Laws.{counts-differ, same_step, same_start, same_none}
use Rattle.examine.proofs.same_words.Goals as goal

pub returns-then-b-d : goal.returns-then-b-d
returns-then-b-d c = let s = c in sym (counts-differ s.args.b.now s.args.d.now c.if-b-d.true)

pub loop-at-init : goal.loop-at-init
loop-at-init c = let s = c in (same_start s.args.b.now s.args.d.now (c.from-n.result + 1 - 1) (omega (arith, c.from-n.ensures)) c.if-b-d.false, omega arith, omega (arith, c.from-n.ensures, s.requires.0))

pub returns-then-b-at : goal.returns-then-b-at
returns-then-b-at c = let s = c in let l = c.loop-at in let n = c.from-n.result + 1 - l.at in sym (l.invariant.0 ∙ same_step s.args.b.now s.args.d.now l.at n (omega (arith, c.loop-at-test.true)) ∙ ap (λ (z : Bool). and z (same_words (cells s.args.b.now (l.at + 1) (n - 1)) (cells s.args.d.now (l.at + 1) (n - 1)))) (ne_eqb _ _ c.if-b-at.true))

pub loop-at-preserved : goal.loop-at-preserved
loop-at-preserved c = let s = c in let l = c.loop-at in let n = c.from-n.result + 1 - l.at in let z : n - 1 ≡ c.from-n.result + 1 - (l.at + 1) = omega arith in rw (← z) (l.invariant.0 ∙ same_step s.args.b.now s.args.d.now l.at n (omega (arith, c.loop-at-test.true)) ∙ ap (λ (z : Bool). and z (same_words (cells s.args.b.now (l.at + 1) (n - 1)) (cells s.args.d.now (l.at + 1) (n - 1)))) (eq-eqb _ _ c.if-b-at.false), omega (arith, c.loop-at-test.true), l.invariant.2)

pub returns : goal.returns
returns c = let s = c in let l = c.loop-at in sym (l.invariant.0 ∙ same_none s.args.b.now s.args.d.now l.at (c.from-n.result + 1 - l.at) (omega arith))

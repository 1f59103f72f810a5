-- `number_of` meets its contract: the cell tells a kept move of the value, or there is none.
use Prim.Native.Nat.{ℕ, ◌+◌, ◌<◌}
use mathlib.Core.Path.{◌≡◌, sym, ap, ◌∙◌}
use native.Mathlib.Omega.{arith}
use lib.ListN.{get_or}
use lib.Dec.{eqb, ltb}
use borrow.Author.Tests.{eqb-true, ltb-true}
use Rattle.entity.specs.Logic.{and}
use Rattle.ties.specs.Ties.{kept, value_at}
use Rattle.ties.proofs.Laws.{number-of-kept, label-low, number-of-none}
use Rattle.entity.proofs.Laws.{and-true}
use Rattle.ties.proofs.number_of.Goals as goal

pub returns-then-is_of : goal.returns-then-is_of
returns-then-is_of c = let s = c in let e = s.args.e.now in let x = s.args.x.now in let k = c.from-k.result in let q = and-true (ltb k (kept e)) _ (sym c.is_of.ensures ∙ c.if-is_of.true) in let kl : k < kept e = ltb-true _ _ q.0 in (c.from.ensures ∙ sym (number-of-kept e x s.requires.0 k s.args.v.0 kl (eqb-true _ _ q.1)), omega (arith, c.from.ensures, label-low e x s.requires.0 k kl))

pub returns : goal.returns
returns c = let s = c in let e = s.args.e.now in let x = s.args.x.now in let v = s.args.v.0 in let k : c.from-k.result ≡ get_or x v 0 = c.from-k.ensures ∙ ap (λ (w : ℕ). get_or x w 0) c.from-at.ensures in (ap (λ (w : ℕ). 128 + w) c.from-at.ensures ∙ sym (number-of-none e x s.requires.0 v (ap (λ (w : ℕ). and (ltb w (kept e)) (eqb (value_at e w) v)) (sym k) ∙ sym c.is_of.ensures ∙ c.if-is_of.false)), omega (arith, c.from-at.ensures, s.requires.1))

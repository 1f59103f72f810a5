-- A move that is visited is left as it is.
use Prim.Native.Nat.{ℕ, suc, ◌<◌, ◌≤◌}
use mathlib.Core.Path.{◌≡◌, refl, sym, ap, ◌∙◌}
use mathlib.Core.Bool.{Bool, true, false, false≢true}
use mathlib.Core.List.{List}
use Rattle.rules.specs.Edit.{updated}
use Rattle.rules.specs.Order.{State, Pending, Done, is_new}
use Rattle.rules.specs.Counts.{news}
use Rattle.rules.proofs.News.{news-fewer, news-open}
use Rattle.rules.proofs.Steps.{updated-same, updated-other}
use Rattle.visits.specs.Marks.{states_of}
use Rattle.visiting.specs.Steps.{VisitedStay}

pub stay_none : (a : List ℕ) → VisitedStay a a
stay_none a x e = refl

pub stay_then : (a b c : List ℕ) → VisitedStay a b → VisitedStay b c → VisitedStay a c
stay_then a b c p q x e = q x (ap is_new (p x e) ∙ e) ∙ p x e

-- no more moves are new
pub stay-news : (n : ℕ) (a b : List ℕ) → VisitedStay a b → news n (states_of b) ≤ news n (states_of a)
stay-news n a b h = news-fewer n (states_of a) (states_of b) (λ k. go k (is_new (states_of a k)) refl)
  where
    go : (k : ℕ) (was : Bool) → is_new (states_of a k) ≡ was → is_new (states_of b k) ≡ true → was ≡ true
    go k true e i = refl
    go k false e i = sym (ap is_new (h k e) ∙ e) ∙ i

-- a new move opens: one fewer is new
pub opens-less : (n m : ℕ) (a b : List ℕ) → m < n → is_new (states_of a m) ≡ true → states_of b ≡ updated m Pending (states_of a) → news n (states_of a) ≡ suc (news n (states_of b))
opens-less n m a b l new e = news-open n m (states_of a) l new ∙ ap (λ (s : ℕ → State). suc (news n s)) (sym e)

-- a move opens, others are visited, and it closes
module _ (m : ℕ) (a b c : List ℕ) (opens : states_of b ≡ updated m Pending (states_of a)) (visits : VisitedStay b c) where
  pub still_open : states_of c m ≡ Pending
  still_open =
      let e : states_of b m ≡ Pending = ap (λ (s : ℕ → State). s m) opens ∙ updated-same m Pending (states_of a) in
      visits m (ap is_new e) ∙ e

  pub visit-stays : (d : List ℕ) → is_new (states_of a m) ≡ true → states_of d ≡ updated m Done (states_of c) → VisitedStay a d
  visit-stays d new closes x old =
      let q : x ≡ m → ⊥ = λ z. false≢true (sym old ∙ ap (λ y. is_new (states_of a y)) z ∙ new) in
      let e : states_of b x ≡ states_of a x = ap (λ (s : ℕ → State). s x) opens ∙ updated-other m Pending (states_of a) x q in
      ap (λ (s : ℕ → State). s x) closes ∙ updated-other m Done (states_of c) x q ∙ visits x (ap is_new e ∙ old) ∙ e

-- Two lists held against each other, number by number.
use Prim.Native.Nat.{ℕ, ◌+◌, ◌<◌, ◌≤◌}
use mathlib.Core.Path.{◌≡◌, refl, sym, ap, ◌∙◌}
use mathlib.Core.Bool.{true, false}
use mathlib.Core.List.{List, [], ◌∷◌}
use native.Mathlib.Omega.{arith}
use borrow.Author.Tests.{eqb-true, eq-eqb}
use lib.Dec.{eqb}
use lib.ListN.{length, get_or, drop, drop_of_length-le}
use Rattle.entity.specs.Logic.{and}
use Rattle.entity.proofs.Laws.{and-true, drop-step, never_true}
use Rattle.records.specs.Bytes.{same_list, SameExactly}

same-equal : (l m : List ℕ) → same_list l m ≡ true → l ≡ m
unfolding same_list
same-equal [] [] e = refl
same-equal [] (y ∷ m) e = absurd (let z : ◌≡◌ {A = ℕ} 0 1 = cc in omega arith)
same-equal (x ∷ l) [] e = absurd (let z : ◌≡◌ {A = ℕ} 0 1 = cc in omega arith)
same-equal (x ∷ l) (y ∷ m) e =
    let b = and-true (eqb x y) (same_list l m) e in
    let h : x ≡ y = eqb-true x y b.0 in
    let t : l ≡ m = same-equal l m b.1 in
    rw (h, t) refl

same_self : (l : List ℕ) → same_list l l ≡ true
unfolding same_list
same_self [] = refl
same_self (x ∷ l) = rw (eq-eqb x x refl, same_self l) refl

pub same-exactly : SameExactly
same-exactly l m = (same-equal l m, λ e. rw e (same_self m))

module _ (a b : List ℕ) where
  pub lengths_differ : (length a ≡ length b → ⊥) → false ≡ same_list a b
  lengths_differ h = sym (never_true (same_list a b) (λ e. h (ap length (same-equal a b e))))

  -- the first i are the same
  module _ (i : ℕ) (s : same_list a b ≡ same_list (drop i a) (drop i b)) where
    pub all_same : length a ≡ length b → length a ≤ i → true ≡ same_list a b
    all_same l h =
        let x : drop i a ≡ [] = drop_of_length-le a {i = i} h in
        let y : drop i b ≡ [] = drop_of_length-le b {i = i} (omega arith) in
        sym (s ∙ rw (x, y) (same_self []))

    module _ (p : i < length a) (q : i < length b) where
      step : same_list (drop i a) (drop i b) ≡ and (eqb (get_or a i 0) (get_or b i 0)) (same_list (drop (i + 1) a) (drop (i + 1) b))
      unfolding same_list
      step = rw (drop-step a i 0 p, drop-step b i 0 q) refl

      pub one_more : get_or a i 0 ≡ get_or b i 0 → same_list a b ≡ same_list (drop (i + 1) a) (drop (i + 1) b)
      one_more e = s ∙ step ∙ rw (eq-eqb (get_or a i 0) (get_or b i 0) e) refl

      pub one-differs : (get_or a i 0 ≡ get_or b i 0 → ⊥) → false ≡ same_list a b
      one-differs n = sym (s ∙ step ∙ rw (never_true (eqb (get_or a i 0) (get_or b i 0)) (λ e. n (eqb-true (get_or a i 0) (get_or b i 0) e))) refl)

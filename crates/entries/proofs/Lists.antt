-- Laws of the tests of lists.
use Prim.Native.Nat.{ℕ, zero, suc, ◌+◌, ◌<◌}
use mathlib.Core.Path.{◌≡◌, refl, sym, ap, ◌∙◌, fun_ext}
use mathlib.Core.Bool.{Bool, true, false, false≢true}
use mathlib.Core.List.{List, [], ◌∷◌, ◌++◌, map}
use mathlib.Core.Option.{none, some}
use native.Mathlib.Omega.{arith}
use lib.ListN.{get_or, length, drop}
use Rattle.entity.specs.Logic.{pick, or, any_in, has, meets, twice}
use Rattle.entity.proofs.Laws.{or-false, never_true, drop-step}

pub or-none : (a : Bool) → or a false ≡ a
or-none true = refl
or-none false = refl

pub or_right : (a b : Bool) → b ≡ true → or a b ≡ true
or_right true b h = refl
or_right false b h = h

pub or_assoc : (a b c : Bool) → or a (or b c) ≡ or (or a b) c
or_assoc true b c = refl
or_assoc false b c = refl

or-across : (a b c d : Bool) → or (or a b) (or c d) ≡ or (or a c) (or b d)
or-across true b c d = refl
or-across false true true d = refl
or-across false true false d = refl
or-across false false true d = refl
or-across false false false d = refl

-- what a test that picks something says
pub pick-none : {A : Type 0} (b : Bool) (x : A) → none ≡ pick b (some x) none → b ≡ false
pick-none true x e = let z : ◌≡◌ {A = ℕ} 0 1 = cc in absurd (omega arith)
pick-none false x e = refl

pub pick_some : {A : Type 0} (b : Bool) (x y : A) → some x ≡ pick b (some y) none → (b ≡ true) × (y ≡ x)
pick_some true x y e = (refl, cc)
pick_some false x y e = let z : ◌≡◌ {A = ℕ} 0 1 = cc in absurd (omega arith)

-- two tests that are true together
pub both_ways : (a b : Bool) → (a ≡ true → b ≡ true) → (b ≡ true → a ≡ true) → a ≡ b
both_ways true b p q = sym (p refl)
both_ways false b p q = sym (never_true b (λ e. false≢true (q e)))

module _ {A : Type 0} (p : A → Bool) where
  pub any_append : (l m : List A) → any_in p (l ++ m) ≡ or (any_in p l) (any_in p m)
  unfolding any_in
  any_append [] m = refl
  any_append (x ∷ l) m = ap (or (p x)) (any_append l m) ∙ or_assoc (p x) (any_in p l) (any_in p m)

  pub any-end : (l : List A) (x : A) → any_in p (l ++ (x ∷ [])) ≡ or (any_in p l) (p x)
  unfolding any_in
  any-end l x = any_append l (x ∷ []) ∙ ap (or (any_in p l)) (or-none (p x))

  pub any_step : (l : List A) (j : ℕ) (d : A) → j < length l → any_in p (drop j l) ≡ or (p (get_or l j d)) (any_in p (drop (j + 1) l))
  unfolding any_in
  any_step l j d h = ap (any_in p) (drop-step l j d h)

  pub any-true : (l : List A) (i : ℕ) (d : A) → i < length l → p (get_or l i d) ≡ true → any_in p l ≡ true
  unfolding any_in
  any-true [] i d h e = absurd (omega arith)
  any-true (x ∷ l) zero d h e = rw e
  any-true (x ∷ l) (suc i) d h e = or_right (p x) (any_in p l) (any-true l i d (omega arith) e)

  pub any_where : (l : List A) (d : A) → any_in p l ≡ true → (k : ℕ) × (k < length l) × (p (get_or l k d) ≡ true)
  unfolding any_in
  any_where [] d e = absurd (false≢true e)
  any_where (x ∷ l) d e = go (p x) refl e (any_where l d)
    where
      go : (b : Bool) → p x ≡ b → or b (any_in p l) ≡ true → (any_in p l ≡ true → (k : ℕ) × (k < length l) × (p (get_or l k d) ≡ true)) → (k : ℕ) × (k < length (x ∷ l)) × (p (get_or (x ∷ l) k d) ≡ true)
      go true q e on = (0, omega arith, q)
      go false q e on = let w = on e in (suc w.0, omega (arith, w.1), w.2)

  -- where only the element at k can pass
  pub any-only : (l : List A) (k : ℕ) (d : A) → k < length l → ((i : ℕ) → i < length l → p (get_or l i d) ≡ true → i ≡ k) → any_in p l ≡ p (get_or l k d)
  any-only l k d h only =
      both_ways (any_in p l) (p (get_or l k d)) (λ e. let w = any_where l d e in rw (only w.0 w.1 w.2) at w.2) (any-true l k d h)

pub any-map : {A B : Type 0} (p : B → Bool) (g : A → B) (l : List A) → any_in p (map g l) ≡ any_in (λ x. p (g x)) l
unfolding any_in
any-map p g [] = refl
any-map p g (x ∷ l) = ap (or (p (g x))) (any-map p g l)

pub any_same : {A : Type 0} (p q : A → Bool) (l : List A) → ((x : A) → p x ≡ q x) → any_in p l ≡ any_in q l
any_same {A = A} p q l h = ap (λ (r : A → Bool). any_in r l) (fun_ext h)

any-never : {A : Type 0} (l : List A) → any_in (λ x. false) l ≡ false
unfolding any_in
any-never [] = refl
any-never (x ∷ l) = any-never l

any-or : {A : Type 0} (p q : A → Bool) (l : List A) → any_in (λ x. or (p x) (q x)) l ≡ or (any_in p l) (any_in q l)
unfolding any_in
any-or p q [] = refl
any-or p q (x ∷ l) = ap (or (or (p x) (q x))) (any-or p q l) ∙ or-across (p x) (q x) (any_in p l) (any_in q l)

pub any_swap : {A B : Type 0} (p : A → B → Bool) (l : List A) (m : List B) → any_in (λ x. any_in (p x) m) l ≡ any_in (λ y. any_in (λ x. p x y) l) m
unfolding any_in
any_swap p [] m = sym (any-never m)
any_swap p (x ∷ l) m = ap (or (any_in (p x) m)) (any_swap p l m) ∙ sym (any-or (p x) (λ y. any_in (λ x. p x y) l) m)

pub meets_any : (l m : List ℕ) → meets l m ≡ any_in (λ u. has u m) l
unfolding meets any_in
meets_any [] m = refl
meets_any (x ∷ l) m = ap (or (has x m)) (meets_any l m)

-- what stands at j does not stand behind it
pub twice-at : (us : List ℕ) (j : ℕ) → twice us ≡ false → j < length us → has (get_or us j 0) (drop (j + 1) us) ≡ false
unfolding twice
twice-at [] j e h = absurd (omega arith)
twice-at (u ∷ us) zero e h = (or-false (has u us) (twice us) e).0
twice-at (u ∷ us) (suc j) e h = let z : suc j + 1 ≡ suc (j + 1) = omega arith in rw z (twice-at us j (or-false (has u us) (twice us) e).1 (omega arith))

-- Laws of sets of units: who is in after units are put in or taken out, and what a store in the table does.
use Prim.Native.Nat.{ℕ, zero, suc, ◌<◌, ◌≤◌}
use mathlib.Core.Path.{◌≡◌, refl, sym, ◌∙◌, fun_ext}
use mathlib.Core.Bool.{Bool, true, false}
use mathlib.Core.List.{List, [], ◌∷◌}
use lib.ListN.{get_or, length, set, replicate, get_or-eq_default}
use lib.Seq.{get_or-set_same, get_or-set_other}
use lib.Dec.{eqb}
use borrow.Author.Tests.{eqb-true, eqb-false, eq-eqb, ne_eqb}
use Rattle.entity.specs.Logic.{pick, and, or, no, has}
use Rattle.small_set.specs.Set.{set_of, empty_set, inserted, removed, inserted_all, removed_all}

-- ---- one unit
module _ (s : ℕ → Bool) (u : ℕ) where
  pub in-inserted : inserted s u u ≡ true
  unfolding inserted
  in-inserted = rw (eq-eqb u u refl)

  pub in-removed : removed s u u ≡ false
  unfolding removed
  in-removed = rw (eq-eqb u u refl)

  pub inserted-other : (x : ℕ) → (x ≡ u → ⊥) → inserted s u x ≡ s x
  unfolding inserted
  inserted-other x n = rw (ne_eqb x u n)

  pub removed-other : (x : ℕ) → (x ≡ u → ⊥) → removed s u x ≡ s x
  unfolding removed
  removed-other x n = rw (ne_eqb x u n)

-- a unit that is in is put in to no effect, and one that is not is taken out to none
same : (s : ℕ → Bool) (u : ℕ) (b : Bool) → s u ≡ b → (x : ℕ) (e : Bool) → eqb x u ≡ e → pick e b (s x) ≡ s x
same s u b h x true e = rw (eqb-true x u e) (sym h)
same s u b h x false e = refl

pub inserted_same : (s : ℕ → Bool) (u : ℕ) → s u ≡ true → inserted s u ≡ s
unfolding inserted
inserted_same s u h = fun_ext (λ x. same s u true h x (eqb x u) refl)

pub removed-same : (s : ℕ → Bool) (u : ℕ) → s u ≡ false → removed s u ≡ s
unfolding removed
removed-same s u h = fun_ext (λ x. same s u false h x (eqb x u) refl)

pub inserted-twice : (s : ℕ → Bool) (u : ℕ) → inserted (inserted s u) u ≡ inserted s u
inserted-twice s u = inserted_same (inserted s u) u (in-inserted s u)

pub removed-twice : (s : ℕ → Bool) (u : ℕ) → removed (removed s u) u ≡ removed s u
removed-twice s u = removed-same (removed s u) u (in-removed s u)

pub inserted-swap : (s : ℕ → Bool) (u v : ℕ) → inserted (inserted s u) v ≡ inserted (inserted s v) u
unfolding inserted
inserted-swap s u v = fun_ext (λ x. by (eqb x v) (eqb x u) (s x))
  where
    by : (a b y : Bool) → pick a true (pick b true y) ≡ pick b true (pick a true y)
    by true true y = refl
    by true false y = refl
    by false true y = refl
    by false false y = refl

-- ---- a list of units
pub in-inserted_all : (s : ℕ → Bool) (us : List ℕ) (x : ℕ) → inserted_all s us x ≡ or (has x us) (s x)
unfolding inserted_all inserted has
in-inserted_all s [] x = refl
in-inserted_all s (u ∷ us) x = in-inserted_all (inserted s u) us x ∙ by (eqb x u) (has x us)
  where
    by : (a b : Bool) → or b (pick a true (s x)) ≡ or (or a b) (s x)
    by true true = refl
    by true false = refl
    by false true = refl
    by false false = refl

pub in-removed_all : (s : ℕ → Bool) (us : List ℕ) (x : ℕ) → removed_all s us x ≡ and (no (has x us)) (s x)
unfolding removed_all removed has
in-removed_all s [] x = refl
in-removed_all s (u ∷ us) x = in-removed_all (removed s u) us x ∙ by (eqb x u) (has x us)
  where
    by : (a b : Bool) → and (no b) (pick a false (s x)) ≡ and (no (or a b)) (s x)
    by true true = refl
    by true false = refl
    by false true = refl
    by false false = refl

-- ---- the table: a flag stored, and no flag
store_at : (t : List Bool) (u : ℕ) (b : Bool) → u < length t → (x : ℕ) (e : Bool) → eqb x u ≡ e → get_or (set t u b) x false ≡ pick e b (get_or t x false)
store_at t u b long x true e = rw (eqb-true x u e, get_or-set_same t u b false long)
store_at t u b long x false e = get_or-set_other t u x b false (eqb-false x u e)

pub store_true : (t : List Bool) (u : ℕ) → u < length t → set_of (set t u true) ≡ inserted (set_of t) u
unfolding set_of inserted
store_true t u long = fun_ext (λ x. store_at t u true long x (eqb x u) refl)

pub store-false : (t : List Bool) (u : ℕ) → u < length t → set_of (set t u false) ≡ removed (set_of t) u
unfolding set_of removed
store-false t u long = fun_ext (λ x. store_at t u false long x (eqb x u) refl)

no_flag : (n x : ℕ) → get_or (replicate n false) x false ≡ false
no_flag zero x = refl
no_flag (suc n) zero = refl
no_flag (suc n) (suc x) = no_flag n x

pub none_in : (n : ℕ) → set_of (replicate n false) ≡ empty_set
unfolding set_of empty_set
none_in n = fun_ext (no_flag n)

-- no unit past the table is in
pub past_all : (t : List Bool) (u : ℕ) → length t ≤ u → set_of t u ≡ false
unfolding set_of
past_all t u h = get_or-eq_default t false h

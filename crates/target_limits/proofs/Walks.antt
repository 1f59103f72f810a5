-- A walk over cells of a table, or over the numbers below a bound: a find says that there is one, and a walk to the end that there is none;
-- an iterator's `any` says both.
use Prim.Native.Nat.{ℕ, zero, suc, ◌+◌, ◌-◌, ◌<◌}
use mathlib.Core.Path.{◌≡◌, refl, sym, ap, ◌∙◌}
use mathlib.Core.Bool.{Bool, true, false, true≢false}
use mathlib.Core.List.{List, [], ◌∷◌}
use native.Mathlib.Omega.{arith}
use borrow.Author.Tests.{eq-eqb, ne_eqb, ltb-true}
use lib.Dec.{eqb, ltb}
use lib.ListN.{get_or, length}
use denote.Param.Members.{Mut}
use Rattle.std.proofs.iter.Yields.{nat_range_steps}
use Rattle.std.proofs.lemmas.Iterator.{YieldsList-from_range}
use Rattle.std.proofs.lemmas.Iterator.Search.{any_from_yields_List}
use Rattle.std.specs.Fn.{Called}
use Rattle.std.specs.Iterator.{YieldsThen}
use Rattle.std.specs.List.{list_any, range_with_len, FoldsTo}
use Rattle.std.specs.Option.{MatchOption}
use Rattle.std.specs.Prelude.{Option}
use Rattle.std.specs.declared.ops.Range.{Range}
use Rattle.entity.specs.Logic.{and, or, any_in, all_in, has, twice, indices, cells}
use Rattle.reginfo.specs.Refused.{all_below}
use Rattle.entity.proofs.Laws.{any_below, all-at, length-cells, get_d-cells}

or-right : (a : Bool) → or a true ≡ true
or-right true = refl
or-right false = refl

-- a cell after the first, counted from the first or from the second
module _ (t : List ℕ) (at i : ℕ) where
  cell-0 : get_or t (at + 0) 0 ≡ get_or t at 0
  cell-0 = let e : at + 0 ≡ at = omega arith in ap (λ (j : ℕ). get_or t j 0) e

  cell-suc : get_or t (at + suc i) 0 ≡ get_or t (at + 1 + i) 0
  cell-suc = let e : at + suc i ≡ at + 1 + i = omega arith in ap (λ (j : ℕ). get_or t j 0) e

module _ (p : ℕ → Bool) (t : List ℕ) where
  pub any-cell : (at n i : ℕ) → i < n → p (get_or t (at + i) 0) ≡ true → any_in p (cells t at n) ≡ true
  unfolding any_in cells
  any-cell at zero i h e = absurd (omega arith)
  any-cell at (suc n) zero h e = rw (rw (cell-0 t at 0) at e)
  any-cell at (suc n) (suc i) h e = rw (any-cell (at + 1) n i (omega arith) (rw (cell-suc t at i) at e)) (or-right (p (get_or t at 0)))

  pub no-cell : (at n : ℕ) → ((i : ℕ) → i < n → p (get_or t (at + i) 0) ≡ false) → any_in p (cells t at n) ≡ false
  unfolding any_in cells
  no-cell at zero f = refl
  no-cell at (suc n) f = rw (rw (cell-0 t at 0) at (f 0 (omega arith)), no-cell (at + 1) n (λ i h. rw (cell-suc t at i) at (f (suc i) (omega arith))))

  pub other-cell : (at n i : ℕ) → i < n → p (get_or t (at + i) 0) ≡ false → all_in p (cells t at n) ≡ false
  unfolding all_in cells
  other-cell at zero i h e = absurd (omega arith)
  other-cell at (suc n) zero h e = rw (rw (cell-0 t at 0) at e)
  other-cell at (suc n) (suc i) h e = rw (other-cell (at + 1) n i (omega arith) (rw (cell-suc t at i) at e)) (and-right (p (get_or t at 0)))
    where
      and-right : (a : Bool) → and a false ≡ false
      and-right true = refl
      and-right false = refl

  pub all-cells : (at n : ℕ) → ((i : ℕ) → i < n → p (get_or t (at + i) 0) ≡ true) → all_in p (cells t at n) ≡ true
  unfolding all_in cells
  all-cells at zero f = refl
  all-cells at (suc n) f = rw (rw (cell-0 t at 0) at (f 0 (omega arith)), all-cells (at + 1) n (λ i h. rw (cell-suc t at i) at (f (suc i) (omega arith))))

-- cells that are all below a bound
pub cell-below : (bound : ℕ) (t : List ℕ) (at n i : ℕ) → all_below bound (cells t at n) ≡ true → i < n → get_or t (at + i) 0 < bound
cell-below bound t at n i e h =
    let there : i < length (cells t at n) = rw (length-cells t at n) h in
    rw (get_d-cells t at n i h) at (ltb-true _ _ (all-at (λ x. ltb x bound) (cells t at n) i 0 e there))

module _ (x : ℕ) where
  has-any : (l : List ℕ) → has x l ≡ any_in (eqb x) l
  unfolding has any_in
  has-any [] = refl
  has-any (y ∷ l) = ap (or (eqb x y)) (has-any l)

  pub has-cell : (t : List ℕ) (at n i : ℕ) → i < n → x ≡ get_or t (at + i) 0 → has x (cells t at n) ≡ true
  has-cell t at n i h e = has-any (cells t at n) ∙ any-cell (eqb x) t at n i h (eq-eqb x _ e)

  pub has-not : (t : List ℕ) (at n : ℕ) → ((i : ℕ) → i < n → x ≡ get_or t (at + i) 0 → ⊥) → has x (cells t at n) ≡ false
  has-not t at n f = has-any (cells t at n) ∙ no-cell (eqb x) t at n (λ i h. ne_eqb x _ (f i h))

-- the number at a cell is looked for among the cells after it
module _ (t : List ℕ) where
  abbrev pub again : ℕ → ℕ → ℕ → Bool
  again at n i = has (get_or t (at + i) 0) (cells t (at + i + 1) (n - i - 1))

  pub twice-cell : (at n i : ℕ) → i < n → again at n i ≡ true → twice (cells t at n) ≡ true
  unfolding twice cells
  twice-cell at zero i h e = absurd (omega arith)
  twice-cell at (suc n) zero h e =
      let a : at + 0 ≡ at = omega arith in
      let m : suc n - 0 - 1 ≡ n = omega arith in
      rw (rw (a, m) at e)
  twice-cell at (suc n) (suc i) h e =
      let a : at + suc i ≡ at + 1 + i = omega arith in
      let m : suc n - suc i - 1 ≡ n - i - 1 = omega arith in
      rw (twice-cell (at + 1) n i (omega arith) (rw (a, m) at e)) (or-right (has (get_or t at 0) (cells t (at + 1) n)))

  pub once-cells : (at n : ℕ) → ((i : ℕ) → i < n → again at n i ≡ false) → twice (cells t at n) ≡ false
  unfolding twice cells
  once-cells at zero f = refl
  once-cells at (suc n) f =
      let a : at + 0 ≡ at = omega arith in
      let m : suc n - 0 - 1 ≡ n = omega arith in
      rw (rw (a, m) at (f 0 (omega arith)), once-cells (at + 1) n (λ i h. let b : at + suc i ≡ at + 1 + i = omega arith in let k : suc n - suc i - 1 ≡ n - i - 1 = omega arith in rw (b, k) at (f (suc i) (omega arith))))

-- the numbers below n
module _ (p : ℕ → Bool) where
  none-from : (a n : ℕ) → ((i : ℕ) → i < n → p (a + i) ≡ false) → any_in p (indices a n) ≡ false
  unfolding any_in indices
  none-from a zero f = refl
  none-from a (suc n) f =
      let z : a + 0 ≡ a = omega arith in
      rw (rw z at (f 0 (omega arith)), none-from (a + 1) n (λ i h. let y : a + suc i ≡ a + 1 + i = omega arith in rw y at (f (suc i) (omega arith))))

  pub none-below : (n : ℕ) → ((i : ℕ) → i < n → p i ≡ false) → any_in p (indices 0 n) ≡ false
  none-below n f = none-from 0 n (λ i h. let z : 0 + i ≡ i = omega arith in rw z (f i h))

  pub some-below : (n i : ℕ) → i < n → p i ≡ true → any_in p (indices 0 n) ≡ true
  some-below n i h e = go (any_in p (indices 0 n)) refl
    where
      go : (b : Bool) → any_in p (indices 0 n) ≡ b → any_in p (indices 0 n) ≡ true
      go true q = q
      go false q = absurd (true≢false (sym e ∙ any_below p n i q h))

  any-indices : (a n : ℕ) → list_any p (range_with_len a n) ≡ any_in p (indices a n)
  unfolding any_in indices
  any-indices a zero = refl
  any-indices a (suc n) = ap (or (p a)) (any-indices (a + 1) n)

  -- `(0..n).any(f)` is r, by its clause `ran`; f computes the test p
  pub below-from_any : {F : Type 0} {f : F} {g : Mut F (ℕ × Unit {0}) Bool} {s u : Range ℕ} (r : Bool)
      → (xs : List ℕ) × (o : Option ℕ) × (j : F) × YieldsThen nat_range_steps s xs o u × FoldsTo (λ p x q. Called g p (x, tt) false q) f xs j × MatchOption o (r ≡ false) (λ x. (r ≡ true) × ((h : F) × Called g j (x, tt) true h))
      → (n : ℕ) → s ≡ record { start = 0; end = n }
      → ((x : ℕ) (b : Bool) (q : F) → Called g f (x, tt) b q → (q ≡ f) × (b ≡ p x))
      → r ≡ any_in p (indices 0 n)
  below-from_any r ran n e test = rw (any-indices 0 n) at (any_from_yields_List p _ _ r ran (YieldsList-from_range 0 n n e (omega arith)) test)

-- Sums over two counts, over a count of one, and of how many sizes pass a test.
use Prim.Native.Nat.{ℕ, zero, suc, ◌+◌, ◌*◌, ◌≤◌}
use mathlib.Core.Path.{◌≡◌, refl, sym, ap, ◌∙◌}
use mathlib.Core.Bool.{Bool, true, false}
use mathlib.Core.Logic.{⊎_elim}
use native.Mathlib.Omega.{arith}
use mathlib.Core.List.{◌∷◌}
use lib.ListN.{length}
use Rattle.entity.specs.Logic.{pick, indices}
use Rattle.rules.specs.Edit.{filter}
use Rattle.rules.specs.Counts.{bit, sum}
use Rattle.rules.proofs.Sum.{sum-change, sum-zero}
use Rattle.machine.proofs.SlotCounts.{less?}

pub sum-plus : (f g : ℕ → ℕ) (n : ℕ) → sum (λ k. f k + g k) n ≡ sum f n + sum g n
unfolding sum
sum-plus f g zero = refl
sum-plus f g (suc n) = omega (arith, sum-plus f g n)

-- by rows or by columns
pub sum-swap : (f : ℕ → ℕ → ℕ) (m n : ℕ) → sum (λ j. sum (λ k. f j k) n) m ≡ sum (λ k. sum (λ j. f j k) m) n
unfolding sum
sum-swap f zero n = sym (sum-zero (λ k. 0) n (λ k l. refl))
sum-swap f (suc m) n = omega (arith, sum-plus (λ k. f m k) (λ k. sum (λ j. f j k) m) n, sum-swap f m n)

-- at most 1 at one number, and 0 at each other
pub sum-once : (f : ℕ → ℕ) (x n : ℕ) → f x ≤ 1 → ((k : ℕ) → (k ≡ x → ⊥) → f k ≡ 0) → sum f n ≤ 1
sum-once f x n h z =
    ⊎_elim (λ l. omega (arith, sum-change f (λ k. 0) n x l z, sum-zero (λ k. 0) n (λ k l. refl))) (λ l. omega (arith, sum-zero f n (λ k a. z k (λ e. omega arith)))) (less? x n)

pub sum-times : (f : ℕ → ℕ) (b n : ℕ) → sum (λ k. b * f k) n ≡ b * sum f n
unfolding sum
sum-times f b zero = omega arith
sum-times f b (suc n) = omega (arith, sum-times f b n)

sum_first : (f : ℕ → ℕ) (n : ℕ) → sum f (suc n) ≡ f 0 + sum (λ k. f (suc k)) n
unfolding sum
sum_first f zero = refl
sum_first f (suc n) = omega (arith, sum_first f n)

pub sum_same : (f g : ℕ → ℕ) (n : ℕ) → ((k : ℕ) → f k ≡ g k) → sum f n ≡ sum g n
unfolding sum
sum_same f g zero h = refl
sum_same f g (suc n) h = omega (arith, h n, sum_same f g n h)

-- how many of a row of numbers pass a test: the first, and the others
pub filter-first : (p : ℕ → Bool) (i n : ℕ) → length (filter p (indices i (suc n))) ≡ bit (p i) + length (filter p (indices (i + 1) n))
unfolding filter indices bit
filter-first p i n = go (p i)
  where
    go : (b : Bool) → length (pick b (i ∷ filter p (indices (i + 1) n)) (filter p (indices (i + 1) n))) ≡ bit b + length (filter p (indices (i + 1) n))
    go true = omega arith
    go false = omega arith

filtered-from : (p : ℕ → Bool) (i n : ℕ) → length (filter p (indices i n)) ≡ sum (λ k. bit (p (i + k))) n
unfolding filter indices
filtered-from p i zero = sym (sum-zero (λ k. bit (p (i + k))) 0 (λ k l. absurd (omega arith)))
filtered-from p i (suc n) =
    omega (
      arith,
      filter-first p i n,
      filtered-from p (i + 1) n,
      sum_same (λ k. bit (p (i + 1 + k))) (λ k. bit (p (i + suc k))) n (λ k. let e : i + 1 + k ≡ i + suc k = omega arith in ap (λ j. bit (p j)) e),
      sum_first (λ k. bit (p (i + k))) n,
      let e : i + 0 ≡ i = omega arith in ap (λ j. bit (p j)) e,
    )

pub filtered : (p : ℕ → Bool) (n : ℕ) → length (filter p (indices 0 n)) ≡ sum (λ k. bit (p k)) n
filtered p n = filtered-from p 0 n ∙ sum_same (λ k. bit (p (0 + k))) (λ k. bit (p k)) n (λ k. let e : 0 + k ≡ k = omega arith in ap (λ j. bit (p j)) e)

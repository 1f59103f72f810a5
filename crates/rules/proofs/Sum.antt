-- Laws of sums over the first n numbers and of tests as numbers.
use Prim.Native.Nat.{ℕ, zero, suc, ◌+◌, ◌<◌, ◌≤◌}
use mathlib.Core.Path.{◌≡◌, refl, subst}
use mathlib.Core.Bool.{Bool, true, false}
use mathlib.Core.Logic.{⊎_elim}
use native.Mathlib.Omega.{arith}
use Rattle.rules.specs.Counts.{bit, sum}
use Rattle.rules.proofs.Steps.{same?}

pub bit-yes : (b : Bool) → b ≡ true → bit b ≡ 1
unfolding bit
bit-yes true e = refl
bit-yes false e = let z : ◌≡◌ {A = ℕ} 0 1 = cc in absurd (omega arith)

pub bit_le : (a b : Bool) → (a ≡ true → b ≡ true) → bit a ≤ bit b
unfolding bit
bit_le true b h = omega (arith, bit-yes b (h refl))
bit_le false b h = omega arith

sum_below : (f g : ℕ → ℕ) (n v : ℕ) → n ≤ v → ((k : ℕ) → (k ≡ v → ⊥) → f k ≡ g k) → sum f n ≡ sum g n
unfolding sum
sum_below f g zero v l h = refl
sum_below f g (suc n) v l h = omega (arith, h n (λ e. omega arith), sum_below f g n v (omega arith) h)

-- two functions that differ at one number
pub sum-change : (f g : ℕ → ℕ) (n v : ℕ) → v < n → ((k : ℕ) → (k ≡ v → ⊥) → f k ≡ g k) → sum f n + g v ≡ sum g n + f v
unfolding sum
sum-change f g zero v l h = absurd (omega arith)
sum-change f g (suc n) v l h =
    ⊎_elim
    (λ e. subst (λ (z : ℕ). f n + sum f n + g z ≡ g n + sum g n + f z) e (omega (arith, sum_below f g n v (omega arith) h)))
    (λ d. omega (arith, h n d, sum-change f g n v (omega arith) h)) (same? n v)

pub sum-part : (f : ℕ → ℕ) (n v : ℕ) → v < n → f v ≤ sum f n
unfolding sum
sum-part f zero v l = absurd (omega arith)
sum-part f (suc n) v l = ⊎_elim (λ e. subst (λ (z : ℕ). f z ≤ f n + sum f n) e (omega arith)) (λ d. omega (arith, sum-part f n v (omega arith))) (same? n v)

pub sum-zero : (f : ℕ → ℕ) (n : ℕ) → ((k : ℕ) → k < n → f k ≡ 0) → sum f n ≡ 0
unfolding sum
sum-zero f zero h = refl
sum-zero f (suc n) h = omega (arith, h n (omega arith), sum-zero f n (λ k l. h k (omega arith)))

pub sum_ones : (n : ℕ) → sum (λ k. 1) n ≡ n
unfolding sum
sum_ones zero = refl
sum_ones (suc n) = omega (arith, sum_ones n)

pub sum-le : (f g : ℕ → ℕ) (n : ℕ) → ((k : ℕ) → k < n → f k ≤ g k) → sum f n ≤ sum g n
unfolding sum
sum-le f g zero h = omega arith
sum-le f g (suc n) h = omega (arith, h n (omega arith), sum-le f g n (λ k l. h k (omega arith)))

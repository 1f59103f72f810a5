-- How many of the first n pass a test.
use mathlib.Core.Path.{◌≡◌, refl, ap, ap₂}
use mathlib.Core.Bool.{Bool, true, false, not}
use Prim.Native.Nat.{ℕ, zero, suc, ◌+◌, ◌<◌}
use native.Mathlib.Omega.{arith}
use lib.Dec.{T}
use Rattle.rules.specs.Counts.{bit, sum}
use Rattle.rules.proofs.Sum.{bit-yes, sum-change, sum-part, sum-zero}
use Rattle.machine.proofs.Tests.{of-yes}

abbrev pub tally : (ℕ → Bool) → ℕ → ℕ
tally f n = sum (λ k. bit (f k)) n

bit-no : (b : Bool) → T (not b) → bit b ≡ 0
unfolding bit
bit-no true h = absurd h
bit-no false h = refl

pub tally-pos : (f : ℕ → Bool) (n k : ℕ) → k < n → T (f k) → 0 < tally f n
tally-pos f n k h y = omega (arith, sum-part (λ k. bit (f k)) n k h, bit-yes (f k) (of-yes (f k) y))

pub tally-cong : (f g : ℕ → Bool) (n : ℕ) → ((k : ℕ) → k < n → f k ≡ g k) → tally f n ≡ tally g n
unfolding sum
tally-cong f g zero h = refl
tally-cong f g (suc n) h = ap₂ ◌+◌ (ap bit (h n (omega arith))) (tally-cong f g n (λ k l. h k (omega arith)))

pub tally-up : (f g : ℕ → Bool) (n k : ℕ) → k < n → T (not (f k)) → T (g k) → ((x : ℕ) → (x ≡ k → ⊥) → f x ≡ g x) → tally g n ≡ suc (tally f n)
tally-up f g n k l a b h = omega (arith, sum-change (λ k. bit (f k)) (λ k. bit (g k)) n k l (λ x d. ap bit (h x d)), bit-no (f k) a, bit-yes (g k) (of-yes (g k) b))

pub tally-zero : (f : ℕ → Bool) (n : ℕ) → ((k : ℕ) → k < n → T (not (f k))) → tally f n ≡ 0
tally-zero f n h = sum-zero (λ k. bit (f k)) n (λ k l. bit-no (f k) (h k l))

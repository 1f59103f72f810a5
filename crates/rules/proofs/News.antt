-- Laws of how many moves are not visited yet.
use Prim.Native.Nat.{ℕ, suc, ◌<◌, ◌≤◌}
use mathlib.Core.Path.{◌≡◌, refl, ap}
use mathlib.Core.Bool.{true, false≢true}
use native.Mathlib.Omega.{arith}
use Rattle.rules.specs.Edit.{updated}
use Rattle.rules.specs.Order.{State, Pending, Done, is_new}
use Rattle.rules.specs.Counts.{bit, news}
use Rattle.rules.proofs.Steps.{updated-at, updated-same, updated-other}
use Rattle.rules.proofs.Sum.{bit-yes, bit_le, sum-change, sum-le, sum_ones}

module _ (n : ℕ) where
  pub news-all : (s : ℕ → State) → news n s ≤ n
  unfolding news bit
  news-all s = omega (arith, sum-le (λ k. bit (is_new (s k))) (λ k. 1) n (λ k l. bit_le (is_new (s k)) true (λ _. refl)), sum_ones n)

  -- where no move is new that was not
  pub news-fewer : (s s' : ℕ → State) → ((k : ℕ) → is_new (s' k) ≡ true → is_new (s k) ≡ true) → news n s' ≤ news n s
  unfolding news
  news-fewer s s' h = sum-le _ _ n (λ k l. bit_le (is_new (s' k)) (is_new (s k)) (h k))

  -- to open a move leaves one fewer, to close one no more
  pub news-open : (i : ℕ) (s : ℕ → State) → i < n → is_new (s i) ≡ true → news n s ≡ suc (news n (updated i Pending s))
  unfolding news bit
  news-open i s il e =
      omega (
        arith,
        sum-change (λ k. bit (is_new (updated i Pending s k))) (λ k. bit (is_new (s k))) n i il (λ k d. ap (λ (z : State). bit (is_new z)) (updated-other i Pending s k d)),
        ap (λ (z : State). bit (is_new z)) (updated-same i Pending s),
        bit-yes (is_new (s i)) e,
      )

  pub news-close : (i : ℕ) (s : ℕ → State) → news n (updated i Done s) ≤ news n s
  news-close i s = news-fewer s (updated i Done s) (λ k. updated-at (λ z. is_new z ≡ true → is_new (s k) ≡ true) i Done s k (λ _ e. absurd (false≢true e)) (λ _ e. e))

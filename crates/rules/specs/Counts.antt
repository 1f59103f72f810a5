-- Tests as numbers, sums over the first n numbers, and how many moves are not visited yet.
use Rattle.std.specs.Prelude.{ℕ, zero, suc, ◌+◌, Bool, true, false}
use Rattle.rules.specs.Order.{State, is_new}

-- 1 where a test is passed
unfoldable pub bit : Bool → ℕ
bit true = 1
bit false = 0

-- f at each number below n, added up
unfoldable pub sum : (ℕ → ℕ) → ℕ → ℕ
sum f zero = 0
sum f (suc n) = f n + sum f n

-- how many of the first n moves are not visited yet
unfoldable pub news : ℕ → (ℕ → State) → ℕ
news n s = sum (λ k. bit (is_new (s k))) n

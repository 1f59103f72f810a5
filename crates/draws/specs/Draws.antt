-- 02 n: draws from a 32-bit seed.
use Rattle.std.specs.Prelude.{◌≡◌, ℕ, zero, suc, ◌+◌, ◌%◌, ◌^◌, ◌<◌, ◌≤◌, ◌≢◌}

-- "each draw adds 2,654,435,769 to the seed, past 2^32 starting over, and is the seed after it"
abbrev pub next : ℕ → ℕ
next s = (s + 2654435769) % 2 ^ 32

-- the seed after k draws, which is the k-th draw
unfoldable pub after : ℕ → ℕ → ℕ
after s zero = s
after s (suc k) = next (after s k)

-- "no draw repeats within 2^32 draws"
abbrev pub NoDrawRepeats : Type 0
NoDrawRepeats = (s i j : ℕ) → s < 2 ^ 32 → i < j → j < i + 2 ^ 32 → after s i ≢ after s j

-- 01: "the odd step visits every number once": of the 2^32 draws after any seed, one is n
abbrev pub EveryNumberDrawn : Type 0
EveryNumberDrawn = (s n : ℕ) → s < 2 ^ 32 → n < 2 ^ 32 → (k : ℕ) × (1 ≤ k) × (k ≤ 2 ^ 32) × (after s k ≡ n)

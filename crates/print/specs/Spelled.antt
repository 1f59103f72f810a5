-- What is right of the digits of a number.
use Rattle.std.specs.Prelude.{ℕ, ◌+◌, ◌-◌, ◌*◌, ◌<◌, ◌≤◌, ◌≡◌, List, [], ◌∷◌, get_or}

-- the number that the digits spell after those of x
unfoldable pub read_on : ℕ → List ℕ → ℕ
read_on x [] = x
read_on x (d ∷ l) = read_on (x * 10 + (d - 48)) l

abbrev pub read_decimal : List ℕ → ℕ
read_decimal l = read_on 0 l

-- every byte is one of 0 to 9
abbrev pub Digits : List ℕ → Type 0
Digits [] = Unit {0}
Digits (d ∷ l) = (48 ≤ d) × (d < 58) × Digits l

-- the bytes are x in base ten, without a leading zero
pub record Spelled (x : ℕ) (l : List ℕ) : Type 0 where
  pub digits : Digits l
  pub reads-back : read_decimal l ≡ x
  pub no-leading-zero : 0 < x → 48 < get_or l 0 0
  pub nought : x ≡ 0 → l ≡ 48 ∷ []

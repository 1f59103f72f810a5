-- An argument of a program as a number: digits, and below 2^32; else 2^32 or more, which is outside every range.
use Rattle.std.specs.Prelude.{ℕ, ◌+◌, ◌-◌, ◌*◌, Bool, List, [], ◌∷◌, ltb, leb}
use Rattle.entity.specs.Logic.{pick, and}

abbrev pub is_digit : ℕ → Bool
is_digit b = and (leb 48 b) (leb b 57)

abbrev pub stepped : ℕ → ℕ → ℕ
stepped n b = pick (and (ltb n 4294967296) (is_digit b)) (n * 10 + (b - 48)) 4294967296

unfoldable pub number_from : ℕ → List ℕ → ℕ
number_from n [] = n
number_from n (b ∷ l) = number_from (stepped n b) l

abbrev pub number_in : List ℕ → ℕ
number_in [] = 4294967296
number_in (b ∷ l) = number_from 0 (b ∷ l)

-- as a count or a price
abbrev pub narrowed : ℕ → ℕ
narrowed n = pick (ltb n 4294967295) n 4294967295

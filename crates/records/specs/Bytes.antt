-- The bytes of a stream of records.
use Rattle.std.specs.Prelude.{ℕ, ◌+◌, ◌*◌, ◌≡◌, Bool, true, false, List, [], ◌∷◌, eqb, get_or}
use Rattle.entity.specs.Logic.{and}

-- four bytes as a number, the lowest first
abbrev pub length_at : List ℕ → ℕ → ℕ
length_at s at = get_or s at 0 + get_or s (at + 1) 0 * 256 + get_or s (at + 2) 0 * 65536 + get_or s (at + 3) 0 * 16777216

-- number for number
unfoldable pub same_list : List ℕ → List ℕ → Bool
same_list [] [] = true
same_list [] (y ∷ m) = false
same_list (x ∷ l) [] = false
same_list (x ∷ l) (y ∷ m) = and (eqb x y) (same_list l m)

-- it is true of equal lists and of no others
abbrev pub SameExactly : Type 0
SameExactly = (l m : List ℕ) → (same_list l m ≡ true → l ≡ m) × (l ≡ m → same_list l m ≡ true)

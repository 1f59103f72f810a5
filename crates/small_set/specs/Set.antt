-- 01: "Unit sets". A set of register units is a function of the unit's number; a table holds it as one flag for each unit.
use Rattle.std.specs.Prelude.{ℕ, Bool, true, false, List, [], ◌∷◌, get_or, eqb}
use Rattle.entity.specs.Logic.{pick}

-- the set that a table holds
unfoldable pub set_of : List Bool → ℕ → Bool
set_of l u = get_or l u false

unfoldable pub empty_set : ℕ → Bool
empty_set u = false

-- the set with the unit u in it, and without it
unfoldable pub inserted : (ℕ → Bool) → ℕ → ℕ → Bool
inserted s u x = pick (eqb x u) true (s x)

unfoldable pub removed : (ℕ → Bool) → ℕ → ℕ → Bool
removed s u x = pick (eqb x u) false (s x)

-- with each of the units, and without any of them, the first of the list first
unfoldable pub inserted_all : (ℕ → Bool) → List ℕ → ℕ → Bool
inserted_all s [] = s
inserted_all s (u ∷ us) = inserted_all (inserted s u) us

unfoldable pub removed_all : (ℕ → Bool) → List ℕ → ℕ → Bool
removed_all s [] = s
removed_all s (u ∷ us) = removed_all (removed s u) us

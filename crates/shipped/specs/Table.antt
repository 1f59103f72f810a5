-- The constant table: the unit lists of the registers one after the other, then the rows of the units.
use Rattle.std.specs.Prelude.{ℕ, ◌+◌, ◌-◌, ◌*◌, List, [], ◌∷◌, ◌++◌, ltb, length}
use Rattle.entity.specs.Logic.{pick, indices, cells}
use Rattle.shipped.specs.Shipped.{shipped_units, shipped_row}

-- the lists of f at the numbers of l
unfoldable pub joined : (ℕ → List ℕ) → List ℕ → List ℕ
joined f [] = []
joined f (x ∷ l) = f x ++ joined f l

unfoldable pub table : List ℕ
table = joined shipped_units (indices 0 56) ++ joined shipped_row (indices 0 32)

-- where the unit list of r stands
unfoldable pub start_of : ℕ → ℕ
start_of r = pick (ltb r 32) r (pick (ltb r 48) (r * 2 - 32) (r * 4 - 128))

-- the table's unit list of r and row of u
unfoldable pub unit_list : ℕ → List ℕ
unit_list r = cells table (start_of r) (length (shipped_units r))

unfoldable pub row : ℕ → List ℕ
row u = cells table (96 + u * 3) 3

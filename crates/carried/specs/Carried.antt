-- Which values each move carries: row i at 2 i, a move and a value, in the order received; cell 2048 counts the rows.
use Rattle.std.specs.Prelude.{ℕ, zero, suc, ◌+◌, ◌*◌, List, [], ◌∷◌, eqb, get_or}
use Rattle.entity.specs.Logic.{pick}

abbrev pub count_of : List ℕ → ℕ
count_of t = get_or t 2048 0

abbrev pub move_at : List ℕ → ℕ → ℕ
move_at t i = get_or t (i * 2) 0

abbrev pub value_at : List ℕ → ℕ → ℕ
value_at t i = get_or t (1 + i * 2) 0

-- the values of a move among the n rows from i on
unfoldable pub rows_of : List ℕ → ℕ → ℕ → ℕ → List ℕ
rows_of t i zero m = []
rows_of t i (suc n) m = pick (eqb (move_at t i) m) (value_at t i ∷ rows_of t (i + 1) n m) (rows_of t (i + 1) n m)

abbrev pub carried_by : List ℕ → ℕ → List ℕ
carried_by t m = rows_of t 0 (count_of t) m

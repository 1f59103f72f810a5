-- The kept moves of a patch and the state of each. The marks: cell m below 128 is the state of move m (0 new, 1 open, else closed), and
-- cell 128 is 1 once the sources of the kept moves are noted.
use Rattle.std.specs.Prelude.{ℕ, ◌<◌, ◌≤◌, Bool, true, false, List, [], ◌∷◌, eqb, ltb, length, get_or, set}
use Rattle.entity.specs.Logic.{pick}
use Rattle.rules.specs.Order.{KeptMove, Remat, no_move, State, New, Pending, Done}
use Rattle.entries.specs.Table.{sorted_of}

abbrev pub moves_of : List ℕ → List KeptMove
moves_of e = (sorted_of e).moves

abbrev pub remats_of : List ℕ → List Remat
remats_of e = (sorted_of e).remats

abbrev pub remats_with_scratch_of : List ℕ → List Remat
remats_with_scratch_of e = (sorted_of e).remats_with_scratch

-- few moves, of values below the limit
pub record Small (ms : List KeptMove) : Type 0 where
  pub few : length ms ≤ 128
  pub values : (i : ℕ) → i < length ms → (get_or ms i no_move).value < 4096

-- the counts of the moves' values are 0, every other cell is as it was
unfoldable pub uncounted : List KeptMove → List ℕ → List ℕ
uncounted [] d = d
uncounted (m ∷ ms) d = uncounted ms (set d m.value 0)

unfoldable pub state_at : ℕ → State
state_at b = pick (eqb b 0) New (pick (eqb b 1) Pending Done)

-- no other move is visited
unfoldable pub states_of : List ℕ → ℕ → State
states_of marks m = pick (ltb m 128) (state_at (get_or marks m 0)) New

unfoldable pub all_new : ℕ → State
all_new m = New

abbrev pub is_done : State → Bool
is_done New = false
is_done Pending = false
is_done Done = true

-- the sources of the kept moves are noted
unfoldable pub is_noted : List ℕ → Bool
is_noted marks = eqb (get_or marks 128 0) 1

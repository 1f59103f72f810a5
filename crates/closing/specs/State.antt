-- The kept moves on their way: the states of the rules that the tables of the code stand for.
use Rattle.std.specs.Prelude.{ℕ, ◌+◌, ◌*◌, ◌<◌, ◌≤◌, ◌≡◌, Bool, true, List, length, get_or}
use Rattle.entity.specs.Logic.{no, has}
use Rattle.entity.specs.Place.{place_at}
use Rattle.function.specs.Known.{Checked}
use Rattle.small_set.specs.Set.{set_of}
use Rattle.rules.specs.Order.{no_move, State, ParallelMoves, cycle_move_sources}
use Rattle.rules.specs.Sorted.{MoveOk}
use Rattle.rules.specs.Counts.{bit, sum}
use Rattle.carried.specs.Carried.{count_of}
use Rattle.scratch.specs.declared.ScratchAllocator.{ScratchAllocator}
use Rattle.scratch.specs.State.{T, F, PlaceFits}
use Rattle.scratch.specs.Promises.{Tables, state_of, FitsIn}
use Rattle.scratch.specs.Diversions.{count_at, alloc_at, scratch_at}
use Rattle.visits.specs.Marks.{moves_of, states_of, is_done, is_noted}
use Rattle.visits.specs.Writers.{KeptOk, Ready}
use Rattle.visits.specs.Carry.{RowsAgree}

-- the tables that change while the moves are visited
pub record Work : Type 0 where
  pub tables : Tables
  pub sources : List Bool
  pub diverted : List ℕ
  pub marks : List ℕ
  pub carried : List ℕ

abbrev pub work : List ℕ → List Bool → List ℕ → List Bool → List ℕ → List ℕ → List ℕ → Work
work edits available slots sources diverted marks carried =
    record { tables = record { edits = edits; available = available; slots = slots }; sources = sources; diverted = diverted; marks = marks; carried = carried }

-- an accepted target and function, and kept moves that passed their tests
pub record MovesOk (t f e : List ℕ) : Type 0 where
  pub checked : Checked t f
  pub kept : KeptOk (T t) (moves_of e)
  pub named : (i : ℕ) → i < length (moves_of e) → MoveOk (T t) (F f) (get_or (moves_of e) i no_move)

-- with the map of their writers
pub record Given (t f e w : List ℕ) : Type 0 where
  pub moves : MovesOk t f e
  pub ready : Ready (T t) e w

-- a kept move can be emitted from a place
pub record Emits (t f e : List ℕ) (m from : ℕ) : Type 0 where
  pub moves : MovesOk t f e
  pub low : m < length (moves_of e)
  pub from-fits : PlaceFits t from

-- how many of the first n moves are not closed
unfoldable pub unclosed : ℕ → (ℕ → State) → ℕ
unclosed n s = sum (λ m. bit (no (is_done (s m)))) n

module _ (e : List ℕ) where
  -- the value of a kept move
  abbrev pub KeptValue : ℕ → Type 0
  KeptValue v = (i : ℕ) × (i < length (moves_of e)) × ((get_or (moves_of e) i no_move).value ≡ v)

module _ (t f cache e : List ℕ) where
  -- a value that is diverted: its first source and its scratch
  pub record Live (p : ParallelMoves) (d : List ℕ) (v : ℕ) : Type 0 where
    pub alloc : p.alloc v ≡ place_at (alloc_at d v)
    pub scratch : p.scratch v ≡ place_at (scratch_at d v)
    pub alloc-fits : PlaceFits t (alloc_at d v)
    pub scratch-fits : PlaceFits t (scratch_at d v)

  -- the diversions of the kept moves' values; nothing is said of other values
  pub record Diversions (p : ParallelMoves) (d : List ℕ) : Type 0 where
    pub counts : (v : ℕ) → KeptValue e v → p.diverted.ref_count v ≡ count_at d v
    pub live : (v : ℕ) → KeptValue e v → 0 < count_at d v → Live p d v

  -- the tables stand for a state of the rules, with room for `rows` more rows than the moves not closed can need
  pub record Stands (rows : ℕ) (p : ParallelMoves) (k : ScratchAllocator) (w : Work) : Type 0 where
    pub allocator : p.allocator ≡ state_of t f cache k w.tables
    pub state : p.state ≡ states_of w.marks
    pub sources : is_noted w.marks ≡ true → set_of w.sources ≡ cycle_move_sources (T t) (F f) (moves_of e)
    pub diversions : Diversions p w.diverted
    pub values : (x v : ℕ) → has v (p.diverted.values x) ≡ true → KeptValue e v
    pub counted : (v : ℕ) → p.diverted.ref_count v ≤ count_of w.carried
    pub carried : RowsAgree p.state p.diverted w.carried
    pub room : count_of w.carried + rows + 8 * unclosed (length (moves_of e)) p.state ≤ 1024
    pub fits : FitsIn t f cache 0 2 0 k w.tables

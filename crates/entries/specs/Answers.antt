-- What the enums of the code stand for, and what adding an entry leaves.
use Rattle.std.specs.Prelude.{ℕ, ◌+◌, ◌*◌, ◌<◌, ◌≡◌, Bool, true, false, List, get_or, length}
use Rattle.std.proofs.Math.Option.{Option, none, some}
use Rattle.entity.specs.Logic.{pick, no, any_in, has}
use Rattle.entity.specs.Place.{Place, place_at}
use Rattle.reginfo.specs.RegInfo.{RegInfo, place_units}
use Rattle.reginfo.specs.Refused.{first_of}
use Rattle.reginfo.specs.Table.{reg_info_of}
use Rattle.function.specs.Table.{function_of}
use Rattle.rules.specs.Order.{Remat}
use Rattle.rules.specs.Patch.{Entry, overlaps_source, entry_conditions, add}
use Rattle.sparse.specs.Map.{Same}
use Rattle.entries.specs.declared.Added as A
use Rattle.entries.specs.declared.Added.{Added}
use Rattle.entries.specs.declared.Fate as F
use Rattle.entries.specs.declared.Fate.{Fate}
use Rattle.entries.specs.Table.{sorted_of, stamp_of, source_indexed, kept_move, with_move, with_remat}
use Rattle.entries.specs.Known.{is_written, Noted, Indexed, SameIndex, EntriesOk}

-- the number by which an entry or a patch is refused
abbrev pub added_of : Added → Option ℕ
added_of A.TheVariants.Yes = none
added_of (A.TheVariants.Refused n) = some n

-- rebuilt, with scratch or without, or not
abbrev pub fate_of : Fate → Option Bool
fate_of F.TheVariants.Kept = none
fate_of (F.TheVariants.Remat b) = some b

-- an entry added to the table e and the map w, or refused
pub record AddedAs (t f e w e' w' : List ℕ) (x : Entry) (r : Option ℕ) : Type 0 where
  pub is : r ≡ first_of (entry_conditions (reg_info_of t) (function_of f) (sorted_of e) x)
  pub yes : r ≡ none → (sorted_of e' ≡ add (reg_info_of t) (function_of f) x (sorted_of e)) × EntriesOk t f e' w'
  -- what the tables stand for is as it was, and entries can still be added; cells of the index, and cells that the map does not read, may differ
  pub no : (n : ℕ) → r ≡ some n → (sorted_of e' ≡ sorted_of e) × EntriesOk t f e' w'

-- x noted as the writer of each of the units us, unless one of them has a writer
pub record NotedNew (w w' us : List ℕ) (x : ℕ) (r : Bool) : Type 0 where
  pub is : r ≡ no (any_in (is_written w) us)
  pub yes : r ≡ true → Noted w w' us x
  pub no : r ≡ false → Same w w'

-- a source put into the index for the move that is kept next, unless 21 holds of it
pub record IndexedAs (t : RegInfo) (e e' : List ℕ) (p : Place) (o : Bool) : Type 0 where
  pub is : o ≡ overlaps_source t (sorted_of e) p
  pub low : (y : ℕ) → y < 1028 → get_or e' y 0 ≡ get_or e y 0
  pub yes : o ≡ false → e' ≡ source_indexed t e p (get_or e 1024 0)
  pub no : o ≡ true → Indexed t (sorted_of e) e'

-- a move kept: the index tells it for the units of its source, and is otherwise as it was
pub record KeptAs (t : RegInfo) (e w e' w' : List ℕ) (s d v : ℕ) : Type 0 where
  pub sorted : sorted_of e' ≡ with_move (kept_move s d v) (sorted_of e)
  pub noted : Noted w w' (place_units t (place_at d)) (length (sorted_of e).moves)
  pub stamp : get_or e' 1540 0 ≡ get_or e 1540 0
  pub told : (u : ℕ) → u < 512 → has u (place_units t (place_at s)) ≡ true → get_or e' (1028 + u) 0 ≡ stamp_of e * 128 + length (sorted_of e).moves
  pub others : (u : ℕ) → u < 512 → has u (place_units t (place_at s)) ≡ false → get_or e' (1028 + u) 0 ≡ get_or e (1028 + u) 0

-- a rebuild added, unless one of the units us is written already
pub record RemattedAs (e w e' w' us : List ℕ) (b : Bool) (x : Remat) (r : Option ℕ) : Type 0 where
  pub is : r ≡ pick (any_in (is_written w) us) (some 12) none
  pub yes : r ≡ none → (sorted_of e' ≡ with_remat b x (sorted_of e)) × Noted w w' us 128 × SameIndex e e'
  pub no : (n : ℕ) → r ≡ some n → (e' ≡ e) × Same w w'

-- The kept move that writes a unit, read from the map of writers.
use Rattle.std.specs.Prelude.{ℕ, ◌<◌, ◌≡◌, Bool, false, List, ltb, length, get_or, Some, None}
use Rattle.std.proofs.Math.Option.{Option, none, some}
use Rattle.entity.specs.Logic.{pick}
use Rattle.reginfo.specs.RegInfo.{RegInfo}
use Rattle.function.specs.Function.{Function}
use Rattle.rules.specs.Order.{KeptMove, no_move, State, is_pending, writer_from}
use Rattle.sparse.specs.Map.{map_of, Linked}
use Rattle.entries.specs.Known.{Writable}
use Rattle.visits.specs.Marks.{moves_of, Small}
use Rattle.std.specs.Prelude as std

abbrev pub writer_is : std.Option ℕ → Option ℕ
writer_is (Some m) = some m
writer_is None = none

-- a rebuild's 128 is no move
unfoldable pub kept_only : Option ℕ → Option ℕ
kept_only none = none
kept_only (some m) = pick (ltb m 128) (some m) none

abbrev pub kept_writer : List ℕ → ℕ → Option ℕ
kept_writer w u = kept_only (map_of w u)

-- a move, if any, is open
abbrev pub is_open : (ℕ → State) → Option ℕ → Bool
is_open s none = false
is_open s (some m) = is_pending (s m)

-- kept moves whose places have units that can be looked up
pub record KeptOk (t : RegInfo) (ms : List KeptMove) : Type 0 where
  pub small : Small ms
  pub sources : (i : ℕ) → i < length ms → Writable t (get_or ms i no_move).source
  pub dests : (i : ℕ) → i < length ms → Writable t (get_or ms i no_move).dest

-- the table of entries with the map of writers
pub record Ready (t : RegInfo) (e w : List ℕ) : Type 0 where
  pub kept : KeptOk t (moves_of e)
  pub linked : Linked w
  pub writer : (f : Function) (u : ℕ) → kept_writer w u ≡ writer_from t f (moves_of e) 0 (moves_of e) u

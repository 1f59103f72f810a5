-- What is known of checked tables and of a patch under construction.
use Rattle.std.specs.Prelude.{ℕ, ◌+◌, ◌*◌, ◌/◌, ◌%◌, ◌<◌, ◌≤◌, ◌≡◌, Bool, true, false, List, [], ◌∷◌, ltb, length, get_or}
use Rattle.std.proofs.Math.Option.{Option, none, some}
use Rattle.entity.specs.Logic.{pick, and, or, no, any_in, has, twice}
use Rattle.entity.specs.Place.{Place, reg, same_place, place_at}
use Rattle.reginfo.specs.RegInfo.{RegInfo, includes_spillslots, last_in_order, place_units, overlap, of_bank}
use Rattle.reginfo.specs.Known.{KnownPlace}
use Rattle.reginfo.specs.Table.{reg_info_of}
use Rattle.function.specs.Function.{Function, num_values, value_bank}
use Rattle.function.specs.Table.{function_of}
use Rattle.rules.specs.Order.{KeptMove, Remat, no_move, writer_from}
use Rattle.rules.specs.Patch.{Sorted, names_place}
use Rattle.rules.specs.Sorted.{SortedOk}
use Rattle.small_set.specs.Set.{set_of}
use Rattle.sparse.specs.Map.{map_of, keys_of, known, updated, Linked, Begins}
use Rattle.entries.specs.Table.{sorted_of, stamp_of}

-- a place whose units can be looked up
pub record Writable (t : RegInfo) (p : Place) : Type 0 where
  pub known : KnownPlace t p
  pub some : 0 < length (place_units t p)
  pub few : length (place_units t p) ≤ 8
  pub low : (u : ℕ) → has u (place_units t p) ≡ true → u < 4608
  pub once : twice (place_units t p) ≡ false

-- the unit has a writer
abbrev pub is_written : List ℕ → ℕ → Bool
is_written w u = known (map_of w u)

-- the map with each of the units at x
unfoldable pub noted : (ℕ → Option ℕ) → List ℕ → ℕ → ℕ → Option ℕ
noted g [] x = g
noted g (u ∷ us) x = noted (updated g u x) us x

pub record Noted (w w' us : List ℕ) (x : ℕ) : Type 0 where
  pub map : map_of w' ≡ noted (map_of w) us x
  pub few : length (keys_of w') ≤ length (keys_of w) + length us
  pub linked : Linked w'
  pub begins : Begins w w'

-- room for one entry more
pub record Roomy (e w : List ℕ) : Type 0 where
  pub few : get_or e 1024 0 + (get_or e 1025 0 + get_or e 1026 0) < 128
  pub count : get_or e 1027 0 < 128
  pub keys : length (keys_of w) ≤ 1016
  pub linked : Linked w

-- the free units that are given: those of the set, if any is
abbrev pub free_in : Bool → List Bool → List Bool
free_in true set = set
free_in false set = []

-- a register unit of the set
abbrev pub is_free : List Bool → ℕ → Bool
is_free free u = and (ltb u 512) (set_of free u)

-- 14: the last of a class without slots overlaps the place
abbrev pub last_clashes : RegInfo → ℕ → Place → Bool
last_clashes t c d = and (no (includes_spillslots t c)) (overlap t (reg (last_in_order t c)) d)

-- ---- 02 h: the index of sources
module _ (t : RegInfo) where
  -- 21 at one unit: an unequal source of a kept move has it
  unfoldable pub clashes_at : Sorted → Place → ℕ → Bool
  clashes_at a s u = any_in (λ (m : KeptMove). and (has u (place_units t m.source)) (no (same_place m.source s))) a.moves

  -- the cell of unit u is of this patch, and tells a kept move whose source is p
  pub record Points (a : Sorted) (e : List ℕ) (u : ℕ) (p : Place) : Type 0 where
    pub stamp : get_or e (1028 + u) 0 / 128 ≡ stamp_of e
    pub kept : get_or e (1028 + u) 0 % 128 < length a.moves
    pub source : (get_or a.moves (get_or e (1028 + u) 0 % 128) no_move).source ≡ p

  -- the cell of every register unit of a kept source does
  abbrev pub Indexed : Sorted → List ℕ → Type 0
  Indexed a e =
      (k u : ℕ) → k < length a.moves → u < 512 → has u (place_units t (get_or a.moves k no_move).source) ≡ true
      → Points a e u (get_or a.moves k no_move).source

  -- what a look at the cell of unit u needs
  pub record SourcedAt (e : List ℕ) (u : ℕ) : Type 0 where
    pub few : get_or e 1024 0 ≤ 128
    pub known : (m : ℕ) → m < get_or e 1024 0 → KnownPlace t (place_at (get_or e (m * 4) 0))
    pub indexed : (k : ℕ) → k < length (sorted_of e).moves → has u (place_units t (get_or (sorted_of e).moves k no_move).source) ≡ true → Points (sorted_of e) e u (get_or (sorted_of e).moves k no_move).source

  -- what a source that is put into the index needs
  pub record Sourced (e : List ℕ) : Type 0 where
    pub few : get_or e 1024 0 + (get_or e 1025 0 + get_or e 1026 0) < 128
    pub known : (m : ℕ) → m < get_or e 1024 0 → KnownPlace t (place_at (get_or e (m * 4) 0))
    pub indexed : Indexed (sorted_of e) e
    pub apart :
        (i k : ℕ) → i < length (sorted_of e).moves → k < length (sorted_of e).moves
        → same_place (get_or (sorted_of e).moves i no_move).source (get_or (sorted_of e).moves k no_move).source ≡ false
        → overlap t (get_or (sorted_of e).moves i no_move).source (get_or (sorted_of e).moves k no_move).source ≡ false

-- neither the index nor the stamp was written
abbrev pub SameIndex : List ℕ → List ℕ → Type 0
SameIndex e e' = (x : ℕ) → 1028 ≤ x → get_or e' x 0 ≡ get_or e x 0

-- a kept move, else 128 where a rebuild writes the unit
abbrev pub or_remat : Option ℕ → Bool → Option ℕ
or_remat (some m) b = some m
or_remat none b = pick b (some 128) none

module _ (t : RegInfo) (f : Function) where
  abbrev pub remat_writes : ℕ → List Remat → Bool
  remat_writes u l = any_in (λ (r : Remat). has u (place_units t r.dest)) l

  -- the writer of a unit
  unfoldable pub writer_of : Sorted → ℕ → Option ℕ
  writer_of a u = or_remat (writer_from t f a.moves 0 a.moves u) (or (remat_writes u a.remats) (remat_writes u a.remats_with_scratch))

  abbrev pub places : Sorted → ℕ
  places a = length a.moves + (length a.remats + length a.remats_with_scratch)

  -- the map holds the writer of each unit, and the index the kept sources
  pub record Tracked (a : Sorted) (e w : List ℕ) : Type 0 where
    pub sorted : SortedOk t f a
    pub few : places a ≤ a.count
    pub most : a.count ≤ 128
    pub map : map_of w ≡ writer_of a
    pub linked : Linked w
    pub room : length (keys_of w) ≤ 8 * places a
    pub indexed : Indexed t a e

  -- an entry that is not refused by 15 or 2
  pub record NamedRemat (a : Sorted) (d : Place) (v : ℕ) : Type 0 where
    pub less : a.count < 128
    pub dest-named : names_place t f d ≡ true
    pub value-named : v < num_values f

  pub record NamedMove (a : Sorted) (s d : Place) (v : ℕ) : Type 0 where
    pub source-named : names_place t f s ≡ true
    pub rest : NamedRemat a d v

  -- a move that is not refused before 12
  pub record PassedMove (a : Sorted) (s d : Place) (v : ℕ) : Type 0 where
    pub less : a.count < 128
    pub source-named : names_place t f s ≡ true
    pub dest-named : names_place t f d ≡ true
    pub value-named : v < num_values f
    pub source-bank : of_bank t (value_bank f v) s ≡ true
    pub dest-bank : of_bank t (value_bank f v) d ≡ true
    pub differ : same_place s d ≡ false

abbrev pub EntriesOk : (t f e w : List ℕ) → Type 0
EntriesOk t f e w = Tracked (reg_info_of t) (function_of f) (sorted_of e) e w

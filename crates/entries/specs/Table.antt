-- The patch under construction as one table of numbers: kept move m at 4 m: source, destination, value; rebuild i at 512 + 2 i and rebuild
-- with scratch i at 768 + 2 i: destination, value; 1024: how many are kept, rebuilt, rebuilt with scratch; 1027: how many entries were added.
-- 1028 + u, the index of sources: where a kept move's source has register unit u, the patch's stamp times 128 and the number of such a move; else
-- any number. 1540: the stamp, by 512.
use Rattle.std.specs.Prelude.{ℕ, suc, ◌+◌, ◌*◌, ◌%◌, Bool, true, false, List, [], ◌∷◌, ◌++◌, map, eqb, ltb, get_or, set}
use Rattle.std.proofs.Math.Option.{Option, none, some}
use Rattle.entity.specs.Logic.{and, indices}
use Rattle.entity.specs.Place.{Place, reg, slot, place_at}
use Rattle.reginfo.specs.RegInfo.{RegInfo, reg_units}
use Rattle.rules.specs.Order.{KeptMove, Remat}
use Rattle.rules.specs.Patch.{Sorted}

unfoldable pub move_at : List ℕ → ℕ → KeptMove
move_at e m = record { source = place_at (get_or e (m * 4) 0); dest = place_at (get_or e (1 + m * 4) 0); value = get_or e (2 + m * 4) 0 }

-- a rebuild of the list that starts at `base`
unfoldable pub remat_at : ℕ → List ℕ → ℕ → Remat
remat_at base e i = record { dest = place_at (get_or e (base + i * 2) 0); value = get_or e (base + 1 + i * 2) 0 }

-- what the table holds
unfoldable pub sorted_of : List ℕ → Sorted
sorted_of e =
    record {
      moves = map (move_at e) (indices 0 (get_or e 1024 0));
      remats = map (remat_at 512 e) (indices 0 (get_or e 1025 0));
      remats_with_scratch = map (remat_at 768 e) (indices 0 (get_or e 1026 0));
      count = get_or e 1027 0;
    }

-- one entry more is counted
abbrev pub counted_one : List ℕ → List ℕ
counted_one e = set e 1027 (get_or e 1027 0 + 1)

-- the move m put in
abbrev pub stored_move : List ℕ → ℕ → ℕ → ℕ → ℕ → List ℕ
stored_move e m s d v = set (set (set (set e (m * 4) s) (1 + m * 4) d) (2 + m * 4) v) 1024 (m + 1)

-- rebuild i put into the list that starts at `base` and is counted at `counter`
abbrev pub stored_remat : List ℕ → ℕ → ℕ → ℕ → ℕ → ℕ → List ℕ
stored_remat e base counter i d v = set (set (set e (base + i * 2) d) (base + 1 + i * 2) v) counter (i + 1)

-- what tells the cells of a patch from those of the patches before it, most of them
abbrev pub stamp_of : List ℕ → ℕ
stamp_of e = get_or e 1540 0 % 512

-- the cells of the units us hold x
unfoldable pub indexed : List ℕ → List ℕ → ℕ → List ℕ
indexed e [] x = e
indexed e (u ∷ us) x = indexed (set e (1028 + u) x) us x

-- the cells of a source tell that kept move m reads it; a slot has no cell
abbrev pub source_indexed : RegInfo → List ℕ → Place → ℕ → List ℕ
source_indexed t e (reg r) m = indexed e (reg_units t r) (stamp_of e * 128 + m)
source_indexed t e (slot s) m = e

-- m is a kept move that has these codes and this value
abbrev pub is_move : List ℕ → ℕ → ℕ → ℕ → ℕ → Bool
is_move e m s d v = and (ltb m 128) (and (eqb (get_or e (m * 4) 0) s) (and (eqb (get_or e (1 + m * 4) 0) d) (eqb (get_or e (2 + m * 4) 0) v)))

abbrev pub is_move_of : List ℕ → Option ℕ → ℕ → ℕ → ℕ → Bool
is_move_of e none s d v = false
is_move_of e (some m) s d v = is_move e m s d v

abbrev pub kept_move : ℕ → ℕ → ℕ → KeptMove
kept_move s d v = record { source = place_at s; dest = place_at d; value = v }

abbrev pub remat_as : ℕ → ℕ → Remat
remat_as d v = record { dest = place_at d; value = v }

-- one entry more, kept, rebuilt or dropped
abbrev pub with_move : KeptMove → Sorted → Sorted
with_move m a = record { moves = a.moves ++ (m ∷ []); remats = a.remats; remats_with_scratch = a.remats_with_scratch; count = suc a.count }

abbrev pub with_remat : Bool → Remat → Sorted → Sorted
with_remat true r a = record { moves = a.moves; remats = a.remats; remats_with_scratch = a.remats_with_scratch ++ (r ∷ []); count = suc a.count }
with_remat false r a = record { moves = a.moves; remats = a.remats ++ (r ∷ []); remats_with_scratch = a.remats_with_scratch; count = suc a.count }

abbrev pub with_dropped : Sorted → Sorted
with_dropped a = record { moves = a.moves; remats = a.remats; remats_with_scratch = a.remats_with_scratch; count = suc a.count }

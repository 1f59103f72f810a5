-- 02 m: whether a run ended right, by what the entries became and by the units that have a writer.
use Rattle.std.specs.Prelude.{ℕ, ◌+◌, ◌<◌, Bool, List, map, eqb, get_or}
use Rattle.entity.specs.Logic.{and, or, no, any_in, indices}
use Rattle.entity.specs.Place.{Place}
use Rattle.reginfo.specs.RegInfo.{RegInfo}
use Rattle.function.specs.Function.{Function, num_values}
use Rattle.rules.specs.Order.{KeptMove, Remat}
use Rattle.rules.specs.Patch.{Sorted}
use Rattle.machine.specs.Machine.{Memory, in_slot, read}
use Rattle.small_set.specs.Set.{set_of}
use Rattle.entries.specs.Table.{remat_at}
use Rattle.entries.specs.Known.{is_written}
use Rattle.examine_rules.specs.Examine.{same_words}
use Rattle.cells.specs.Cells.{Celled}

module _ (t : RegInfo) (f : Function) (content : ℕ → List ℕ) (m : Memory) where
  -- the place holds another content than the value's
  abbrev pub wrongly : Place → ℕ → Bool
  wrongly d v = no (same_words (read t f m d) (content v))

  abbrev pub kept_wrong : List KeptMove → Bool
  kept_wrong l = any_in (λ (k : KeptMove). wrongly k.dest k.value) l

  abbrev pub remats_wrong : List Remat → Bool
  remats_wrong l = any_in (λ (r : Remat). wrongly r.dest r.value) l

  abbrev pub some_wrong : Sorted → Bool
  some_wrong a = or (kept_wrong a.moves) (or (remats_wrong a.remats) (remats_wrong a.remats_with_scratch))

module _ (start m : Memory) (w : List ℕ) where
  abbrev pub unit_stays : List Bool → ℕ → Bool
  unit_stays free u = or (is_written w u) (or (set_of free u) (and (eqb (m.word u) (start.word u)) (same_words (m.lists u) (start.lists u))))

  abbrev pub slot_stays : ℕ → Bool
  slot_stays x = or (is_written w (512 + x)) (same_words (in_slot m x) (in_slot start x))

-- the rebuilds that stand from `base` on, so many as the counter says
abbrev pub remats_at : List ℕ → ℕ → ℕ → List Remat
remats_at e base counter = map (remat_at base e) (indices 0 (get_or e counter 0))

-- a destination that can be read, and a value
pub record Ending (t : RegInfo) (f : Function) (d : Place) (v : ℕ) : Type 0 where
  pub place : Celled t d
  pub value : v < num_values f

-- 01, Ordering and Refused jobs: the entries of a patch, which number each gets, and `resolve`.
use Rattle.std.specs.Prelude.{ℕ, suc, ◌+◌, ◌*◌, Bool, List, [], ◌∷◌, ◌++◌, map, eqb, ltb, leb, length}
use Rattle.std.proofs.Math.Option.{Option, none, some}
use Rattle.entity.specs.Logic.{pick, and, or, no, any_in, has, meets}
use Rattle.entity.specs.Place.{Place, reg, same_place, names}
use Rattle.reginfo.specs.RegInfo.{RegInfo, num_regs, last_in_order, includes_spillslots, overlap, is_memory, in_class, of_bank}
use Rattle.reginfo.specs.Refused.{Condition, refused_if, first_of}
use Rattle.function.specs.Function.{Function, num_values, value_bank, remat_cost, remat_class, can_rematerialize}
use Rattle.rules.specs.Edit.{Edit, and_then, each}
use Rattle.rules.specs.Scratch.{Cache, ScratchAllocator, units_of_reg}
use Rattle.rules.specs.Order.{KeptMove, Remat, remats, remat_with_scratch, moves}

-- 01, The job: "entries: 0 source destination value, or 1 destination value (`add_remat`)"
pub data Entry : Type 0 where
  move : Place → Place → ℕ → Entry
  remat : Place → ℕ → Entry

pub record Patch : Type 0 where
  pub free : List ℕ
  pub entries : List Entry

-- what the entries so far became, and how many they are
pub record Sorted : Type 0 where
  pub moves : List KeptMove
  pub remats : List Remat
  pub remats_with_scratch : List Remat
  pub count : ℕ

abbrev pub nothing_sorted : Sorted
nothing_sorted = record { moves = []; remats = []; remats_with_scratch = []; count = 0 }

-- the destinations of all entries so far, kept and rebuilt
unfoldable pub destinations : Sorted → List Place
destinations a = map (λ (m : KeptMove). m.dest) a.moves ++ (map (λ (r : Remat). r.dest) a.remats ++ map (λ (r : Remat). r.dest) a.remats_with_scratch)

-- demand 3: "8 × kept moves + 5 × rebuilds with scratch + other rebuilds"
-- A kept move is two moves at most, through a scratch, and the reload and save of one evicted register: 4; the copy of its diversion is the same
-- again: 8. A rebuild with scratch has its rebuild beside those four: 5.
abbrev pub bound : Sorted → ℕ
bound a = 8 * length a.moves + (5 * length a.remats_with_scratch + length a.remats)

-- a call's answer: a number, or the edits, the cache left and the greatest position met
pub data Answer : Type 0 where
  refused : ℕ → Answer
  resolved : List Edit → Cache → ℕ → Answer

abbrev pub answer_of : Option ScratchAllocator → Answer
answer_of none = refused 17
answer_of (some k) = resolved k.edits k.cache k.met

abbrev pub unless_refused : Option ℕ → Answer → Answer
unless_refused (some n) r = refused n
unless_refused none r = r

-- one function's calls: "Each call gets a patch, a lent list and the cache that the last one returned or left"
pub record Call : Type 0 where
  pub patch : Patch
  pub room : ℕ

-- a refused call leaves the cache as if it had not been made
abbrev pub cache_after : Cache → Answer → Cache
cache_after c (refused n) = c
cache_after c (resolved es c' n) = c'

-- 02 h, 21: "has a source that overlaps an unequal source of an earlier kept move"
-- While a register holds one value, its half holds another only by chance: such a patch is a fault of its maker. Equal sources pass, as two values
-- may have one content.
abbrev pub overlaps_source : RegInfo → Sorted → Place → Bool
overlaps_source t a s = any_in (λ (m : KeptMove). and (overlap t m.source s) (no (same_place m.source s))) a.moves

module _ (t : RegInfo) (f : Function) where
  -- "A rebuild whose destination is not in the class needs a scratch."
  -- the machine rebuilds only where the class has the destination
  abbrev pub needs_scratch : Place → ℕ → Bool
  needs_scratch d v = no (in_class t (remat_class f v) d)

  -- "A move becomes a rebuild if its value can be rebuilt and either its source is memory, or the cost is `CheaperThanMove` and the
  -- destination is in the rebuild class"
  -- It saves a load where the source is memory. Else it saves a move only where it is cheaper and takes one edit.
  abbrev pub becomes_remat : Place → Place → ℕ → Bool
  becomes_remat s d v = and (can_rematerialize f v) (or (is_memory t s) (and (eqb (remat_cost f v) 1) (no (needs_scratch d v))))

  abbrev pub same_move : Place → Place → ℕ → KeptMove → Bool
  same_move s d v m = and (same_place m.source s) (and (same_place m.dest d) (eqb m.value v))

  -- "A move equal to a kept one in source, destination and value is dropped."
  -- It asks for nothing more. Any other entry into a place that is written already asks for two contents at once, and is 12.
  abbrev pub dropped : Sorted → Place → Place → ℕ → Bool
  dropped a s d v = and (no (becomes_remat s d v)) (any_in (same_move s d v) a.moves)

  abbrev pub add_remat : Bool → Place → ℕ → Sorted → Sorted
  add_remat b d v a =
      pick b
      (record { moves = a.moves; remats = a.remats; remats_with_scratch = a.remats_with_scratch ++ (record { dest = d; value = v } ∷ []); count = suc a.count })
      (record { moves = a.moves; remats = a.remats ++ (record { dest = d; value = v } ∷ []); remats_with_scratch = a.remats_with_scratch; count = suc a.count })

  abbrev pub add_kept : Bool → Place → Place → ℕ → Sorted → Sorted
  add_kept b s d v a =
      pick b
      (record { moves = a.moves; remats = a.remats; remats_with_scratch = a.remats_with_scratch; count = suc a.count })
      (record { moves = a.moves ++ (record { source = s; dest = d; value = v } ∷ []); remats = a.remats; remats_with_scratch = a.remats_with_scratch; count = suc a.count })

  -- dropped, rebuilt or kept
  unfoldable pub add : Entry → Sorted → Sorted
  add (move s d v) a = pick (becomes_remat s d v) (add_remat (needs_scratch d v) d v a) (add_kept (dropped a s d v) s d v a)
  add (remat d v) a = add_remat (needs_scratch d v) d v a

  -- all entries of a patch
  unfoldable pub sorted_from : List Entry → Sorted → Sorted
  sorted_from [] a = a
  sorted_from (e ∷ l) a = sorted_from l (add e a)

  abbrev pub sorted : Patch → Sorted
  sorted p = sorted_from p.entries nothing_sorted

  -- 2: "an index [or] place [..] that names nothing, a slot from N on included"
  abbrev pub names_place : Place → Bool
  names_place p = names (num_regs t) f.slots p

  -- 12: "the destination overlaps that of an earlier entry, kept or rebuild"
  abbrev pub overlaps_earlier : Sorted → Place → Bool
  overlaps_earlier a d = any_in (λ p. overlap t p d) (destinations a)

  -- 02 h, 21: "a move entry that would be kept": neither rebuilt nor dropped
  abbrev pub would_be_kept : Sorted → Place → Place → ℕ → Bool
  would_be_kept a s d v = and (no (becomes_remat s d v)) (no (dropped a s d v))

  -- "each entry 15, 2, 9, 10, 11, 12"; 02 h: 21 "straight after 12"
  -- 9: registers of a bank that are not memory have one width (4), so a value fits every place of its bank. 10: a move onto itself asks for nothing,
  -- and would count among the writers of its own source. 12: of two writers of a unit one would be lost, and which would depend on the order.
  unfoldable pub entry_conditions : Sorted → Entry → List Condition
  entry_conditions a (move s d v) =
      refused_if 15 (leb 128 a.count)
      ∷ refused_if 2 (or (no (names_place s)) (or (no (names_place d)) (no (ltb v (num_values f)))))
      ∷ refused_if 9 (or (no (of_bank t (value_bank f v) s)) (no (of_bank t (value_bank f v) d)))
      ∷ refused_if 10 (same_place s d)
      ∷ refused_if 12 (and (overlaps_earlier a d) (no (dropped a s d v)))
      ∷ refused_if 21 (and (would_be_kept a s d v) (overlaps_source t a s))
      ∷ []
  entry_conditions a (remat d v) =
      refused_if 15 (leb 128 a.count)
      ∷ refused_if 2 (or (no (names_place d)) (no (ltb v (num_values f))))
      ∷ refused_if 9 (no (of_bank t (value_bank f v) d))
      ∷ refused_if 11 (no (can_rematerialize f v))
      ∷ refused_if 12 (overlaps_earlier a d)
      ∷ []

  -- 13: "a free unit is a destination's"
  -- A free unit is a scratch from the last edit on: behind the write of the destination it could be written again.
  abbrev pub free_destination : Patch → Sorted → Bool
  free_destination p a = any_in (λ d. meets (units_of_reg t f d) p.free) (destinations a)

  -- 14: "a rebuild with scratch, class without slots, whose order's last overlaps the destination"
  -- That register is what such a rebuild evicts if nothing else is to be had, and its reload, which stands behind, would undo the destination.
  abbrev pub last_overlaps : Sorted → Bool
  last_overlaps a = any_in (λ (r : Remat). and (no (includes_spillslots t (remat_class f r.value))) (overlap t (reg (last_in_order t (remat_class f r.value))) r.dest)) a.remats_with_scratch

  -- "then 13, 14, 16, 17"; 17 is given by the run itself
  -- 16 is tested against the bound, which a caller can work out beforehand, not against how many edits there are.
  unfoldable pub patch_conditions : Patch → ℕ → Sorted → List Condition
  patch_conditions p room a = refused_if 13 (free_destination p a) ∷ refused_if 14 (last_overlaps a) ∷ refused_if 16 (ltb room (bound a)) ∷ []

  -- "rebuilds without scratch, then those with, then two passes over the kept moves"; every unit that is free is available
  -- Rebuilds come first in finding, so last in the list: they read no place, and their destinations are scratch for all before them; those without
  -- scratch make room for those with. Free units hold nothing that is needed.
  unfoldable pub run : Patch → Sorted → Cache → Option ScratchAllocator
  run p a c =
      and_then (each (remat_with_scratch t f) a.remats_with_scratch (remats t f a.remats (record { edits = []; available = λ u. has u p.free; evicted = []; cache = c; met = 0 })))
      (moves t f a.moves)

  unfoldable pub resolve_sorted : Patch → ℕ → Cache → Sorted → Answer
  resolve_sorted p room c a = unless_refused (first_of (patch_conditions p room a)) (answer_of (run p a c))

  -- entry by entry
  unfoldable pub resolve_from : Patch → ℕ → Cache → List Entry → Sorted → Answer
  resolve_from p room c [] a = resolve_sorted p room c a
  resolve_from p room c (e ∷ l) a = unless_refused (first_of (entry_conditions a e)) (resolve_from p room c l (add e a))

  -- `resolve` of one patch: `room` is the length of the lent list
  unfoldable pub resolve : Patch → ℕ → Cache → Answer
  resolve p room c = resolve_from p room c p.entries nothing_sorted

-- What is known of the entries of an accepted patch, once each has passed its tests.
use Rattle.std.specs.Prelude.{ℕ, ◌<◌, ◌≤◌, ◌≡◌, Bool, true, false, List, length, get_or}
use Rattle.std.proofs.Math.Option.{some}
use Rattle.entity.specs.Place.{slot, same_place}
use Rattle.reginfo.specs.RegInfo.{RegInfo, in_class, of_bank, overlap}
use Rattle.function.specs.Function.{Function, num_values, value_bank, remat_class, can_rematerialize}
use Rattle.rules.specs.Edit.{Edit}
use Rattle.rules.specs.Scratch.{Cache, ScratchAllocator}
use Rattle.rules.specs.Order.{KeptMove, Remat, no_move, no_remat}
use Rattle.rules.specs.Patch.{Patch, Sorted, sorted, destinations, bound, names_place, free_destination, last_overlaps, run}

module _ (t : RegInfo) (f : Function) where
  pub record MoveOk (m : KeptMove) : Type 0 where
    pub source-named : names_place t f m.source ≡ true
    pub dest-named : names_place t f m.dest ≡ true
    pub value-named : m.value < num_values f
    pub source-bank : of_bank t (value_bank f m.value) m.source ≡ true
    pub dest-bank : of_bank t (value_bank f m.value) m.dest ≡ true
    pub differ : same_place m.source m.dest ≡ false

  -- `direct` says whether the rebuild class has the destination
  pub record RematOk (direct : Bool) (r : Remat) : Type 0 where
    pub dest-named : names_place t f r.dest ≡ true
    pub value-named : r.value < num_values f
    pub dest-bank : of_bank t (value_bank f r.value) r.dest ≡ true
    pub can : can_rematerialize f r.value ≡ true
    pub in-class : in_class t (remat_class f r.value) r.dest ≡ direct

  pub record SortedOk (a : Sorted) : Type 0 where
    pub moves : (i : ℕ) → i < length a.moves → MoveOk (get_or a.moves i no_move)
    pub remats : (i : ℕ) → i < length a.remats → RematOk true (get_or a.remats i no_remat)
    pub remats_with_scratch : (i : ℕ) → i < length a.remats_with_scratch → RematOk false (get_or a.remats_with_scratch i no_remat)
    -- no two destinations overlap
    pub apart :
        (i k : ℕ) → i < length (destinations a) → k < length (destinations a) → (i ≡ k → ⊥)
        → overlap t (get_or (destinations a) i (slot 0)) (get_or (destinations a) k (slot 0)) ≡ false
    -- 02 h: unequal sources of kept moves share no unit
    pub sources :
        (i k : ℕ) → i < length a.moves → k < length a.moves
        → same_place (get_or a.moves i no_move).source (get_or a.moves k no_move).source ≡ false
        → overlap t (get_or a.moves i no_move).source (get_or a.moves k no_move).source ≡ false

  -- an accepted call: what its tests leave known, and its run
  pub record Ran (p : Patch) (room : ℕ) (c : Cache) (es : List Edit) (c' : Cache) : Type 0 where
    pub ok : SortedOk (sorted t f p)
    pub free : free_destination t f p (sorted t f p) ≡ false
    pub last : last_overlaps t f (sorted t f p) ≡ false
    pub room-enough : bound (sorted t f p) ≤ room
    pub allocator : ScratchAllocator
    pub ran : run t f p (sorted t f p) c ≡ some allocator
    pub edits : es ≡ allocator.edits
    pub cache : c' ≡ allocator.cache

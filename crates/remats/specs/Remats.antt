-- What the rebuilds of a patch ask, and what they leave.
use Rattle.std.specs.Prelude.{ℕ, zero, suc, ◌+◌, ◌*◌, ◌<◌, ◌≤◌, ◌≡◌, Bool, false, List, [], ◌∷◌, eqb, length, get_or}
use Rattle.std.proofs.Math.Option.{Option, some}
use Rattle.entity.specs.Logic.{and}
use Rattle.entity.specs.Place.{Place, code_of}
use Rattle.reginfo.specs.RegInfo.{RegInfo, spillslot_size}
use Rattle.reginfo.specs.Known.{KnownPlace}
use Rattle.function.specs.Function.{Function}
use Rattle.function.specs.Known.{Checked}
use Rattle.function.specs.Table.{function_of}
use Rattle.rules.specs.Edit.{Edit, and_then, Rematerialize}
use Rattle.rules.specs.Scratch as rules
use Rattle.rules.specs.Order.{Remat, remats, no_remat}
use Rattle.rules.specs.Patch.{Sorted}
use Rattle.rules.specs.Sorted.{RematOk}
use Rattle.edit.specs.Buffer.{count_of, Written}
use Rattle.scratch.specs.declared.ScratchAllocator.{ScratchAllocator}
use Rattle.scratch.specs.State.{T, F, evicted_in, allocator_of, owed}
use Rattle.scratch.specs.Promises.{Tables, state_of, FitsIn}

-- a rebuild that an edit can name
pub record RematFits (t : List ℕ) (r : Remat) : Type 0 where
  pub known : KnownPlace (T t) r.dest
  pub small : code_of r.dest < 16384
  pub value : r.value < 4096

-- few rebuilds, and each can be named
pub record RematsFit (t : List ℕ) (l : List Remat) : Type 0 where
  pub few : length l ≤ 128
  pub fits : (i : ℕ) → i < length l → RematFits t (get_or l i no_remat)

-- few rebuilds with scratch, and each has passed its tests
pub record RematsOk (t f : List ℕ) (l : List Remat) : Type 0 where
  pub checked : Checked t f
  pub few : length l ≤ 128
  pub ok : (i : ℕ) → i < length l → RematOk (T t) (function_of f) false (get_or l i no_remat)

-- rebuilds without scratch made: an edit for each; of the allocator itself nothing changes
pub record Rematted (t : List ℕ) (l : List Remat) (k : ScratchAllocator) (edits : List ℕ) (available : List Bool) (k' : ScratchAllocator) (edits' : List ℕ) (available' : List Bool) : Type 0 where
  pub kept : k' ≡ k
  pub count : count_of edits' ≡ count_of edits + length l
  pub written : Written edits → Written edits'
  pub is : (f cache slots : List ℕ) → allocator_of t k' edits' available' slots cache ≡ remats (T t) (F f) l (allocator_of t k edits available slots cache)

-- no kept move, and no rebuild with scratch
abbrev pub only_remats : Sorted → Bool
only_remats a = and (eqb (length a.moves) 0) (eqb (length a.remats_with_scratch) 0)

-- the edits of the first n rebuilds, the last one first
unfoldable pub last_first : List Remat → ℕ → List Edit
last_first l zero = []
last_first l (suc n) = Rematerialize (get_or l n no_remat).dest (get_or l n no_remat).value ∷ last_first l n

module _ (t : RegInfo) (f : Function) where
  -- a rebuild whose scratch is found "emits scratch to destination [..], then the rebuild into the scratch, and puts a slot scratch back.
  -- Every rebuild then makes its destination's units available."
  unfoldable pub through_scratch : ℕ → Place → Place → ℕ → rules.ScratchAllocator → Option rules.ScratchAllocator
  through_scratch b to p v k =
      and_then (rules.move_edits t f b to p v k)
      (λ k'. some (rules.make_available t f to (rules.release_place t f (spillslot_size t b) p (rules.push (Rematerialize p v) k'))))

module _ (t f cache : List ℕ) where
  -- a scratch moved to the destination and rebuilt: two moves at most, a reload and the save then owed, and the rebuild
  pub record Through (k : ScratchAllocator) (w : Tables) (k' : ScratchAllocator) (w' : Tables) (by : rules.ScratchAllocator → Option rules.ScratchAllocator) : Type 0 where
    pub is : by (state_of t f cache k w) ≡ some (state_of t f cache k' w')
    pub fits : (a b n : ℕ) → FitsIn t f cache a (b + 1) (n + 5) k w → FitsIn t f cache (a + 1) (b + 3) n k' w'

  -- n rebuilds with scratch made: five edits at most for each, made or owed
  pub record RemattedWithScratch (n : ℕ) (k : ScratchAllocator) (w : Tables) (k' : ScratchAllocator) (w' : Tables) (by : rules.ScratchAllocator → Option rules.ScratchAllocator) : Type 0 where
    pub is : by (state_of t f cache k w) ≡ some (state_of t f cache k' w')
    pub fits : FitsIn t f cache 0 2 8 k' w'
    pub few : count_of w'.edits + owed (evicted_in k') ≤ count_of w.edits + owed (evicted_in k) + 5 * n

-- What the allocator's methods ensure: each gives what the rules give, and the tables stay within bounds.
use Rattle.std.specs.Prelude.{ℕ, ◌+◌, ◌<◌, ◌≡◌, Bool, List, [], ◌∷◌, length}
use Rattle.std.proofs.Math.Option.{Option, none, some}
use Rattle.entity.specs.Place.{Place, place_at}
use Rattle.reginfo.specs.RegInfo.{RegInfo, allocation_order}
use Rattle.function.specs.Function.{Function}
use Rattle.rules.specs.Scratch as rules
use Rattle.slots.specs.Stacks.{met_of}
use Rattle.scratch.specs.declared.Held.{Held}
use Rattle.scratch.specs.declared.ScratchAllocator.{ScratchAllocator}
use Rattle.scratch.specs.declared.finding.Scratch.{Scratch}
use Rattle.scratch.specs.declared.finding.Taken.{Taken}
use Rattle.scratch.specs.State.{T, F, made_of, evicted_in, held_of, evicted_of, cache_in, allocator_of, HeldFits, AllFit, owed, Fits, PlaceFits}

-- the lent tables as a step finds or leaves them
pub record Tables : Type 0 where
  pub edits : List ℕ
  pub available : List Bool
  pub slots : List ℕ

abbrev pub tables : List ℕ → List Bool → List ℕ → Tables
tables e a s = record { edits = e; available = a; slots = s }

-- a search that nothing of the class's order would do for
abbrev pub failing : List ℕ → List ℕ → ℕ → ℕ → rules.ScratchAllocator → Option rules.Found
failing t f b c k = rules.or_scratch (T t) (F f) none (length (allocation_order (T t) c)) b c (rules.meeting (length (allocation_order (T t) c)) k)

-- one more held
pub record Holds (e : Held) (k k' : ScratchAllocator) : Type 0 where
  pub is : (t : RegInfo) → evicted_of t (evicted_in k') ≡ held_of t e ∷ evicted_of t (evicted_in k)
  pub made : made_of k' ≡ made_of k
  pub owes : owed (evicted_in k') ≡ owed (evicted_in k) + 1
  pub fits : (t : RegInfo) → HeldFits t e → AllFit t (evicted_in k) → AllFit t (evicted_in k')

-- what is brought back before a move is emitted
abbrev pub unevict_for_ends : RegInfo → Function → Place → Place → rules.ScratchAllocator → rules.ScratchAllocator
unevict_for_ends t f to from k = rules.unevict_for_reg t f to (rules.unevict_for_reg t f from k)

module _ (t f cache : List ℕ) where
  abbrev pub state_of : ScratchAllocator → Tables → rules.ScratchAllocator
  state_of k w = allocator_of t k w.edits w.available w.slots cache

  abbrev pub FitsIn : ℕ → ℕ → ℕ → ScratchAllocator → Tables → Type 0
  FitsIn a b n k w = Fits a b n t k w.edits w.slots cache

  -- a slot taken: of the allocator only the cache changes
  pub record Acquired (z : ℕ) (k : ScratchAllocator) (slots : List ℕ) (r : Taken) (slots' : List ℕ) : Type 0 where
    pub is : rules.acquire (T t) (F f) z (cache_in k slots cache) ≡ some (record { slot = r.slot.0; cache = cache_in r.allocator slots' cache })
    pub kept : evicted_in r.allocator ≡ evicted_in k
    pub met : met_of slots' ≡ met_of slots
    pub small : r.slot.0 < 8192
    pub fits : (a b n : ℕ) (edits : List ℕ) → Fits a (b + 1) n t k edits slots cache → Fits a b n t r.allocator edits slots' cache

  -- a register brought back that is no longer on the record: an edit is made, and its slot put back
  pub record Back (e : Held) (k : ScratchAllocator) (w : Tables) (k' : ScratchAllocator) (w' : Tables) : Type 0 where
    pub same : k' ≡ k
    pub is : state_of k' w' ≡ rules.unevict (T t) (F f) (held_of (T t) e ∷ []) (state_of k w)
    pub fits : (a b n : ℕ) → FitsIn a b (n + 1) k w → FitsIn a b n k' w'

  -- evicted registers brought back: the edits owed for them are made, and their slots put back
  pub record Brought (k : ScratchAllocator) (w : Tables) (k' : ScratchAllocator) (w' : Tables) (to : rules.ScratchAllocator → rules.ScratchAllocator) : Type 0 where
    pub is : state_of k' w' ≡ to (state_of k w)
    pub fits : (a b n : ℕ) → FitsIn a b n k w → FitsIn a b n k' w'

  -- a scratch found: a reload at most and the save then owed, and a slot made at most
  pub record Found (k : ScratchAllocator) (w : Tables) (r : Scratch) (w' : Tables) (by : rules.ScratchAllocator → Option rules.Found) : Type 0 where
    pub is : by (state_of k w) ≡ some (record { place = place_at r.place.0; position = r.position; scratch = state_of r.allocator w' })
    pub place : PlaceFits t r.place.0
    pub fits : (a b n : ℕ) → FitsIn a (b + 1) (n + 2) k w → FitsIn a b n r.allocator w'

  -- a move emitted: an edit at least, and at most two, a reload and the save then owed
  pub record Moved (k : ScratchAllocator) (w : Tables) (k' : ScratchAllocator) (w' : Tables) (by : rules.ScratchAllocator → Option rules.ScratchAllocator) : Type 0 where
    pub is : by (state_of k w) ≡ some (state_of k' w')
    pub fits : (a b n : ℕ) → FitsIn a (b + 1) (n + 4) k w → FitsIn (a + 1) (b + 2) n k' w'

  -- a scratch put back, if it is a slot
  pub record Released (k : ScratchAllocator) (w : Tables) (k' : ScratchAllocator) (w' : Tables) (to : rules.ScratchAllocator → rules.ScratchAllocator) : Type 0 where
    pub is : state_of k' w' ≡ to (state_of k w)
    pub fits : (a b n : ℕ) → FitsIn (a + 1) b n k w → FitsIn a b n k' w'

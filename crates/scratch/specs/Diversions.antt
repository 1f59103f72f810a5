-- 01: "one diversion per value". The diversion of value v in the lent table: its count at v, its first source at 4096 + v, its scratch at
-- 8192 + v. The latter two mean something only while the count is above 0.
use Rattle.std.specs.Prelude.{ℕ, pred, ◌+◌, ◌≡◌, Bool, List, eqb, get_or}
use Rattle.std.proofs.Math.Option.{Option, some}
use Rattle.entity.specs.Logic.{pick}
use Rattle.entity.specs.Place.{Place, place_at}
use Rattle.reginfo.specs.RegInfo.{RegInfo, top_level_class, spillslot_size}
use Rattle.function.specs.Function.{Function}
use Rattle.rules.specs.Edit.{and_then}
use Rattle.rules.specs.Scratch as rules
use Rattle.scratch.specs.declared.ScratchAllocator.{ScratchAllocator}
use Rattle.scratch.specs.declared.diverting.Divert.{Divert}
use Rattle.scratch.specs.State.{T, F, PlaceFits}
use Rattle.scratch.specs.Promises.{Tables, state_of, FitsIn}

pub record Diversion : Type 0 where
  pub ref_count : ℕ
  pub alloc : Place
  pub scratch : Place

abbrev pub count_at : List ℕ → ℕ → ℕ
count_at d v = get_or d v 0

abbrev pub alloc_at : List ℕ → ℕ → ℕ
alloc_at d v = get_or d (4096 + v) 0

abbrev pub scratch_at : List ℕ → ℕ → ℕ
scratch_at d v = get_or d (8192 + v) 0

abbrev pub diversion_at : List ℕ → ℕ → Diversion
diversion_at d v = record { ref_count = count_at d v; alloc = place_at (alloc_at d v); scratch = place_at (scratch_at d v) }

-- where a diverted move is read, the allocator and the diversion then
pub record Diverting : Type 0 where
  pub place : Place
  pub allocator : rules.ScratchAllocator
  pub diversion : Diversion

pub record Undiverting : Type 0 where
  pub allocator : rules.ScratchAllocator
  pub diversion : Diversion

module _ (t : RegInfo) (f : Function) where
  -- "a live diversion of that value keeps its scratch and its first source, otherwise the top-level class is searched as for a cycle and
  -- the register found becomes unavailable"
  unfoldable pub divert_by : ℕ → (ℕ → Bool) → ℕ → Place → Diversion → rules.ScratchAllocator → Option Diverting
  divert_by b barred added source q k =
      pick (eqb q.ref_count 0)
      (and_then (rules.get_scratch_reg t f b (top_level_class t b) barred k)
      (λ x. some (record { place = x.place; allocator = rules.make_unavailable t f x.place x.scratch; diversion = record { ref_count = added; alloc = source; scratch = x.place } })))
      (some (record { place = q.scratch; allocator = k; diversion = record { ref_count = q.ref_count + added; alloc = q.alloc; scratch = q.scratch } }))

  -- the count loses one; "at zero the copy from first source to scratch is emitted and a slot scratch put back"
  unfoldable pub undivert_by : ℕ → ℕ → Diversion → rules.ScratchAllocator → Option Undiverting
  undivert_by b v q k =
      pick (eqb (pred q.ref_count) 0)
      (and_then (rules.do_move t f b q.scratch q.alloc v k)
      (λ k'. some (record { allocator = rules.release_place t f (spillslot_size t b) q.scratch k'; diversion = record { ref_count = pred q.ref_count; alloc = q.alloc; scratch = q.scratch } })))
      (some (record { allocator = k; diversion = record { ref_count = pred q.ref_count; alloc = q.alloc; scratch = q.scratch } }))

-- of the other values nothing changes
abbrev pub OthersStay : ℕ → List ℕ → List ℕ → Type 0
OthersStay v d d' = (i : ℕ) → (i ≡ v → ⊥) → (i ≡ 4096 + v → ⊥) → (i ≡ 8192 + v → ⊥) → get_or d' i 0 ≡ get_or d i 0

-- the cells of a diversion as they are now
pub record Noted (v n source scratch : ℕ) (d d' : List ℕ) : Type 0 where
  pub count-is : count_at d' v ≡ n
  pub alloc-is : alloc_at d' v ≡ source
  pub scratch-is : scratch_at d' v ≡ scratch
  pub others : OthersStay v d d'

module _ (t f cache : List ℕ) where
  pub record Diverts (b : ℕ) (barred : ℕ → Bool) (added source v : ℕ) (d : List ℕ) (k : ScratchAllocator) (w : Tables) (d' : List ℕ) (r : Divert) (w' : Tables) : Type 0 where
    pub is :
        divert_by (T t) (F f) b barred added (place_at source) (diversion_at d v) (state_of t f cache k w)
        ≡ some (record { place = place_at r.place.0; allocator = state_of t f cache r.allocator w'; diversion = diversion_at d' v })
    pub noted : Noted v (count_at d v + added) (pick (eqb (count_at d v) 0) source (alloc_at d v)) r.place.0 d d'
    pub place : PlaceFits t r.place.0
    pub fits : (a b n : ℕ) → FitsIn t f cache a (b + 1) (n + 2) k w → FitsIn t f cache a b n r.allocator w'

  -- the copy emitted, a slot put back
  pub record Ended (b v : ℕ) (d : List ℕ) (k : ScratchAllocator) (w : Tables) (k' : ScratchAllocator) (w' : Tables) : Type 0 where
    pub is :
        and_then (rules.do_move (T t) (F f) b (place_at (scratch_at d v)) (place_at (alloc_at d v)) v (state_of t f cache k w))
        (λ x. some (rules.release_place (T t) (F f) (spillslot_size (T t) b) (place_at (scratch_at d v)) x)) ≡ some (state_of t f cache k' w')
    pub fits : (a b n : ℕ) → FitsIn t f cache a (b + 1) (n + 4) k w → FitsIn t f cache a (b + 1) n k' w'

  pub record Undiverts (b v : ℕ) (d : List ℕ) (k : ScratchAllocator) (w : Tables) (d' : List ℕ) (k' : ScratchAllocator) (w' : Tables) : Type 0 where
    pub is :
        undivert_by (T t) (F f) b v (diversion_at d v) (state_of t f cache k w)
        ≡ some (record { allocator = state_of t f cache k' w'; diversion = diversion_at d' v })
    pub noted : Noted v (pred (count_at d v)) (alloc_at d v) (scratch_at d v) d d'
    pub fits : (a b n : ℕ) → FitsIn t f cache a (b + 1) (n + 4) k w → FitsIn t f cache a (b + 1) n k' w'

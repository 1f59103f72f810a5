-- The steps of the trials, as the rules give them.
use Rattle.std.specs.Prelude.{ℕ, ◌≤◌, ◌≡◌, Bool, List, []}
use Rattle.std.proofs.Math.Option.{Option, some}
use Rattle.small_set.specs.Set.{empty_set}
use Rattle.entity.specs.Place.{Place}
use Rattle.reginfo.specs.RegInfo.{RegInfo, spillslot_size}
use Rattle.function.specs.Function.{Function, value_bank}
use Rattle.rules.specs.Edit.{and_then, Rematerialize}
use Rattle.rules.specs.Scratch as rules
use Rattle.edit.specs.Buffer.{count_of}
use Rattle.scratch.specs.declared.ScratchAllocator.{ScratchAllocator}
use Rattle.scratch.specs.State.{allocator_of, Fits}
use Rattle.scratch.specs.Promises.{Tables, state_of}
use Rattle.scratch.specs.Diversions.{Diversion, divert_by, undivert_by}

-- an allocator that has made nothing
pub record Started (k : ScratchAllocator) (available : List Bool) (edits slots cache : List ℕ) : Type 0 where
  pub is : (t : List ℕ) → allocator_of t k edits available slots cache ≡ record { edits = []; available = empty_set; evicted = []; cache = rules.empty_cache; met = 0 }
  pub fits : (t : List ℕ) → Fits 0 2 1024 t k edits slots cache

-- what a trial ends with
pub record Ends (t f cache : List ℕ) (by : rules.ScratchAllocator → Option rules.ScratchAllocator) (k : ScratchAllocator) (w : Tables) (k' : ScratchAllocator) (w' : Tables) : Type 0 where
  pub is : by (state_of t f cache k w) ≡ some (state_of t f cache k' w')
  pub few : count_of w'.edits ≤ 1024

module _ (t : RegInfo) (f : Function) where
  unfoldable pub slot_to_slot : Place → Place → ℕ → rules.ScratchAllocator → Option rules.ScratchAllocator
  slot_to_slot to from v k = and_then (rules.do_move t f (value_bank f v) to from v k) (λ x. some (rules.unevict_all t f x))

  unfoldable pub slots_swapped : (ℕ → Bool) → Place → Place → ℕ → ℕ → Diversion → rules.ScratchAllocator → Option rules.ScratchAllocator
  slots_swapped barred p q v w d k =
      and_then (divert_by t f (value_bank f w) barred 1 q d k)
      (λ x. and_then (rules.do_move t f (value_bank f w) p x.place w x.allocator)
      (λ y. and_then (rules.do_move t f (value_bank f v) q p v y)
      (λ z. and_then (undivert_by t f (value_bank f w) w x.diversion z)
      (λ e. some (rules.unevict_all t f e.allocator)))))

  unfoldable pub rematted : (ℕ → Bool) → Place → ℕ → ℕ → rules.ScratchAllocator → Option rules.ScratchAllocator
  rematted barred to v c k =
      and_then (rules.get_scratch_reg t f (value_bank f v) c barred (rules.unevict_for_reg t f to k))
      (λ x. and_then (rules.move_edits t f (value_bank f v) to x.place v x.scratch)
      (λ y. some (rules.unevict_all t f (rules.make_available t f to (rules.release_place t f (spillslot_size t (value_bank f v)) x.place (rules.push (Rematerialize x.place v) y))))))

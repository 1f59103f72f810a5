-- What each step promises, of the tables before and after.
use Rattle.std.specs.Prelude.{ℕ, ◌+◌, ◌*◌, ◌<◌, ◌≤◌, ◌≡◌, List, [], ◌∷◌, get_or, ltb, Some, None}
use Rattle.std.proofs.Math.Option.{Option, none, some}
use Rattle.entity.specs.Logic.{pick}
use Rattle.rules.specs.Edit.{updated}
use Rattle.rules.specs.Scratch.{empty_cache}
use Rattle.std.specs.Prelude as std
use Rattle.entity.specs.declared.SpillSlot.{SpillSlot}
use Rattle.slots.specs.Stacks.{top_first, depth_of, low_of, high_of, met_of, cache_of, stamp_of, raised, stacks_of, CacheFits, SlotsFit, Untouched}

-- what a stack gives
abbrev pub Popped : Type 0
Popped = std.Option SpillSlot

abbrev pub popped_of : Popped → Option ℕ
popped_of (Some s) = some s.0
popped_of None = none

-- the slot last put back on a stack
abbrev pub top_of : List ℕ → Option ℕ
top_of [] = none
top_of (s ∷ l) = some s

-- the stacks without the top of stack z, which is the list in front
abbrev pub without_top : List ℕ → ℕ → (ℕ → List ℕ) → ℕ → List ℕ
without_top [] z f = f
without_top (s ∷ l) z f = updated z l f

-- no slots, and the stamp is raised: 02 g's 20 is told of what was asked for before
pub record Cleared (cache exit : List ℕ) : Type 0 where
  pub empty : cache_of exit ≡ empty_cache
  pub fits : CacheFits exit
  pub stamp : stamp_of exit ≡ raised (stamp_of cache)

-- 01: "a fresh slot cache"; its stamp is any
pub record Fresh (cache : List ℕ) : Type 0 where
  pub empty : cache_of cache ≡ empty_cache
  pub fits : CacheFits cache
  pub stamp : stamp_of cache < 18446744073709551616

-- the stacks are as they were, so many slots are made, and the stamp is raised
pub record Raised (cache exit : List ℕ) (made : ℕ) : Type 0 where
  pub is : cache_of exit ≡ record { stacks = (cache_of cache).stacks; made = made }
  pub fits : CacheFits cache → CacheFits exit
  pub stamp : stamp_of exit ≡ raised (stamp_of cache)

pub record Begun (cache exit : List ℕ) : Type 0 where
  pub stacks : stacks_of exit cache ≡ (cache_of cache).stacks
  pub fits : SlotsFit 0 exit
  pub untouched : Untouched cache exit
  pub met : met_of exit ≡ 0

-- the range reaches to stack z, and nothing else has changed
pub record Touched (slots exit : List ℕ) (z : ℕ) : Type 0 where
  pub low : low_of exit ≡ pick (ltb (low_of slots) z) (low_of slots) z
  pub high : high_of exit ≡ pick (ltb (high_of slots) (z + 1)) (z + 1) (high_of slots)
  pub rest : (i : ℕ) → i < 32832 → get_or exit i 0 ≡ get_or slots i 0
  pub met : met_of exit ≡ met_of slots

pub record Taken (slots cache exit : List ℕ) (z : ℕ) (r : Popped) : Type 0 where
  pub got : popped_of r ≡ top_of (stacks_of slots cache z)
  pub stacks : stacks_of exit cache ≡ without_top (stacks_of slots cache z) z (stacks_of slots cache)
  pub fits : (n : ℕ) → SlotsFit n slots → SlotsFit n exit
  pub untouched : Untouched cache slots → Untouched cache exit
  pub met : met_of exit ≡ met_of slots

pub record PutBack (slots exit : List ℕ) (z s : ℕ) : Type 0 where
  pub stacks : (cache : List ℕ) → stacks_of exit cache ≡ updated z (s ∷ stacks_of slots cache z) (stacks_of slots cache)
  pub fits : (n : ℕ) → SlotsFit n slots → SlotsFit (n + 1) exit
  pub untouched : (cache : List ℕ) → Untouched cache slots → Untouched cache exit
  pub met : met_of exit ≡ met_of slots

-- a position is met, and nothing of the stacks has changed
pub record Meets (slots exit : List ℕ) (n : ℕ) : Type 0 where
  pub met : met_of exit ≡ pick (ltb (met_of slots) n) n (met_of slots)
  pub stacks : (cache : List ℕ) → SlotsFit 1024 slots → stacks_of exit cache ≡ stacks_of slots cache
  pub fits : (m : ℕ) → SlotsFit m slots → SlotsFit m exit
  pub untouched : (cache : List ℕ) → Untouched cache slots → Untouched cache exit

-- the cache's stack z is what the patch left of it, and no other stack has changed
pub record Settled (slots cache exit : List ℕ) (z : ℕ) : Type 0 where
  pub here : top_first exit (64 + z * 2048) (depth_of exit z) ≡ stacks_of slots cache z
  pub deep : depth_of exit z ≤ 2048
  pub others : (y n : ℕ) → (y ≡ z → ⊥) → n ≤ 2048 → top_first exit (64 + y * 2048) n ≡ top_first cache (64 + y * 2048) n
  pub depths : (y : ℕ) → (y ≡ z → ⊥) → y < 32 → depth_of exit y ≡ depth_of cache y
  pub stamp : stamp_of exit ≡ stamp_of cache

-- the cache is what the patch left, and its stamp is raised
pub record Committed (slots cache exit : List ℕ) (made : ℕ) : Type 0 where
  pub is : cache_of exit ≡ record { stacks = stacks_of slots cache; made = made }
  pub fits : CacheFits exit
  pub stamp : stamp_of exit ≡ raised (stamp_of cache)

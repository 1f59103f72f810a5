-- A cache's stacks in another cache: what the depths count; and words in front of a list.
use Rattle.std.specs.Prelude.{ℕ, ◌+◌, ◌*◌, ◌<◌, ◌≤◌, ◌≡◌, List, ◌++◌, ◌⊎◌, get_or, take, drop}
use Rattle.slots.specs.Stacks.{depth_of, cache_of, stamp_of, CacheFits}

-- cell x belongs to stack z
abbrev pub Outside : ℕ → ℕ → Type 0
Outside z x = (x ≡ z → ⊥) × ((x < 64 + z * 2048) ⊎ (64 + z * 2048 + 2048 ≤ x))

-- stack z of `to` is that of `from`, and nothing else has changed
pub record StackCopied (from to exit : List ℕ) (z : ℕ) : Type 0 where
  pub depth : depth_of exit z ≡ depth_of from z
  pub cells : (i : ℕ) → i < depth_of from z → get_or exit (64 + z * 2048 + i) 0 ≡ get_or from (64 + z * 2048 + i) 0
  pub others : (x : ℕ) → Outside z x → get_or exit x 0 ≡ get_or to x 0

-- all stacks are; the slots made and the stamp stay
pub record StacksCopied (from to exit : List ℕ) : Type 0 where
  pub stacks : (cache_of exit).stacks ≡ (cache_of from).stacks
  pub fits : CacheFits exit
  pub stamp : stamp_of exit ≡ stamp_of to

-- the first n words stand at the list's front; "Words past the edits are the caller's own, unaltered"
abbrev pub Written : List ℕ → ℕ → List ℕ → List ℕ → Type 0
Written words n list list' = list' ≡ take n words ++ drop n list

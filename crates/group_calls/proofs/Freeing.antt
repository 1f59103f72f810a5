-- The call: refused for its free units, or that of its patch.
use Prim.Native.Nat.{ℕ}
use mathlib.Core.Path.{refl}
use mathlib.Core.Bool.{Bool}
use mathlib.Core.List.{List}
use mathlib.Core.Option.{none, some}
use lib.ListN.{length}
use Rattle.reginfo.specs.Table.{reg_info_of}
use Rattle.function.specs.Table.{function_of}
use Rattle.slots.specs.Stacks.{cache_of}
use Rattle.parallel_moves.specs.declared.Resolved as R
use Rattle.parallel_moves.specs.declared.Resolved.{Resolved}
use Rattle.rules.specs.Patch.{Answer}
use Rattle.rules.specs.Refusals.{with_limit}
use Rattle.parallel_moves.specs.declared.Grant.{Grant}
use Rattle.parallel_moves.specs.Given.{with_made}
use Rattle.parallel_moves.specs.Answers.{Gives, GivesGranted}
use Rattle.calls.specs.Call.{patch_of, FreeTaken}
use Rattle.grouping.specs.Answers.{Groups, GroupsGranted}
use Rattle.group_calls.specs.Call.{call_by_groups}

module _ (t f us numbers list cache : List ℕ) (set : List Bool) where
  pub free-refused : (n : ℕ) → FreeTaken (reg_info_of t).units us (some n) set → Gives f (call_by_groups (reg_info_of t) (function_of f) us numbers (length list) (cache_of cache)) (R.TheVariants.Refused n) list list cache cache
  unfolding call_by_groups
  free-refused n h = rw (← h.is) (refl, refl, refl)

  pub free-taken : (r : Resolved) (list' cache' : List ℕ) → FreeTaken (reg_info_of t).units us none set → Groups t f set numbers r list list' cache cache'
      → Gives f (call_by_groups (reg_info_of t) (function_of f) us numbers (length list) (cache_of cache)) r list list' cache cache'
  unfolding call_by_groups
  free-taken r list' cache' h g = rw (← h.is) (g (patch_of us numbers) (record { free-is = h.has_all refl; are = refl }))

-- under a grant
module _ (g : Grant) (t f us numbers list cache : List ℕ) (set : List Bool) where
  abbrev under : Answer
  under = call_by_groups (reg_info_of t) (with_limit (reg_info_of t) (function_of f) g.limit) us numbers (length list) (with_made g.made (cache_of cache))

  pub granted-refused : (n : ℕ) → FreeTaken (reg_info_of t).units us (some n) set → GivesGranted f g under (R.TheVariants.Refused n) list list cache cache
  unfolding call_by_groups
  granted-refused n h = rw (← h.is) (refl, refl, refl)

  pub granted-taken : (r : Resolved) (list' cache' : List ℕ) → FreeTaken (reg_info_of t).units us none set → GroupsGranted g t f set numbers r list list' cache cache' → GivesGranted f g under r list list' cache cache'
  unfolding call_by_groups
  granted-taken r list' cache' h k = rw (← h.is) (k (patch_of us numbers) (record { free-is = h.has_all refl; are = refl }))

-- The call for an opened function: refused for its free units or its entries, or what the examination of its patch says.
use Prim.Native.Nat.{ℕ}
use mathlib.Core.Path.{◌≡◌, refl, sym}
use mathlib.Core.Bool.{Bool}
use mathlib.Core.List.{List}
use mathlib.Core.Option.{none, some}
use Rattle.entity.specs.Logic.{has}
use Rattle.reginfo.specs.Refused.{first_of}
use Rattle.reginfo.specs.Table.{reg_info_of}
use Rattle.function.specs.Table.{function_of}
use Rattle.small_set.specs.Set.{set_of}
use Rattle.rules.specs.Patch.{Patch, nothing_sorted, bound, sorted, patch_conditions}
use Rattle.rules.specs.Refusals.{entries_conditions}
use Rattle.entries.specs.Table.{sorted_of}
use Rattle.group_rules.proofs.Lists.{first_some}
use Rattle.parallel_moves.specs.Given.{entries_of}
use Rattle.parallel_moves.specs.Steps.{AllAdded}
use Rattle.calls.specs.Call.{patch_of, FreeTaken}
use Rattle.examine_rules.specs.Examine.{Verdict, Refused, patch_refusal}
use Rattle.examine_rules.specs.Words.{examine_patch}
use Rattle.examine_c.specs.Call.{examine_call}

module _ (t f us numbers ws : List ℕ) (set : List Bool) (most : ℕ) where
  abbrev said : Verdict
  said = examine_call (reg_info_of t) (function_of f) us numbers most ws

  pub free-refused : (n : ℕ) → FreeTaken (reg_info_of t).units us (some n) set → Refused n ≡ said
  unfolding examine_call
  free-refused n h = rw (← h.is) refl

  module _ (free : FreeTaken (reg_info_of t).units us none set) (e e' w' : List ℕ) (empty : sorted_of e ≡ nothing_sorted) where
    pub entries-refused : (n : ℕ) → AllAdded t f e e' w' (entries_of numbers) (some n) → Refused n ≡ said
    unfolding examine_call examine_patch patch_refusal
    entries-refused n h =
        let p = patch_of us numbers in
        let first : first_of (entries_conditions (reg_info_of t) (function_of f) (entries_of numbers) nothing_sorted) ≡ some n = rw empty at (sym h.is) in
        let q = first_some _ (patch_conditions (reg_info_of t) (function_of f) p (bound (sorted (reg_info_of t) (function_of f) p)) (sorted (reg_info_of t) (function_of f) p)) n first in
        rw (← free.is, q) refl

    pub patch-examined : (v : Verdict) → AllAdded t f e e' w' (entries_of numbers) none
        → ((p : Patch) → ((u : ℕ) → has u p.free ≡ set_of set u) → sorted_of e' ≡ sorted (reg_info_of t) (function_of f) p
        → first_of (entries_conditions (reg_info_of t) (function_of f) p.entries nothing_sorted) ≡ none → v ≡ examine_patch (reg_info_of t) (function_of f) p most ws)
        → v ≡ said
    unfolding examine_call
    patch-examined v h by = rw (← free.is) (by (patch_of us numbers) (free.has_all refl) (rw empty at (h.yes refl)) (rw empty at (sym h.is)))

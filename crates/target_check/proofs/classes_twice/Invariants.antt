-- No class so far lists a register twice, each is in the index, and nothing below it has changed.
use Prim.Native.Nat.{ℕ, ◌<◌}
use mathlib.Core.Path.{◌≡◌}
use mathlib.Core.Bool.{false}
use lib.ListN.{length}
use Rattle.reginfo.specs.RegInfo.{class_members}
use Rattle.reginfo.specs.Table.{reg_info_of, IndexedAt}
use Rattle.target_check.specs.Checked.{SameBelow, twice_in}
use Rattle.target_check.proofs.classes_twice.Given as goal

abbrev pub invariant-loop-i : goal.invariant-loop-i
invariant-loop-i l = ((k : ℕ) → k < l.i → twice_in (reg_info_of l.initial.t) k ≡ false) × SameBelow 74752 l.initial.t l.t × ((k : ℕ) → k < l.i → IndexedAt l.t k (length (class_members (reg_info_of l.initial.t) k)))

-- The contract's answer is the rules': where the table holds a frame whose promises are kept, and the formula's tables are its own.
use Rattle.std.specs.Prelude.{ℕ, ◌<◌, ◌≡◌, List}
use Rattle.reginfo.specs.Table.{reg_info_of}
use Rattle.function.specs.Table.{function_of}
use Rattle.rules.specs.Patch.{unless_refused}
use Rattle.slots.specs.Stacks.{cache_of}
use Rattle.calls.specs.Call.{free_refusal, patch_of}
use Rattle.frame_rules.specs.Frame.{Frame}
use Rattle.frame_rules.specs.Promise.{Kept}
use Rattle.frame_table.specs.Held.{Holds}
use Rattle.group_rules.specs.Frame.{groups_in}
use Rattle.frame_groups.specs.Answer.{groups_answer}

abbrev pub GroupsAre : Type 0
GroupsAre =
    (frame : List ℕ) (s : Frame) → Holds frame s → Kept s → (i : ℕ) → i < s.number → (t f cache : List ℕ) → (s.formulas i).target ≡ reg_info_of t → (s.formulas i).function ≡ function_of f
    → (cache_of cache).stacks ≡ (s.formulas i).stacks → (free numbers : List ℕ) (room : ℕ)
    → groups_answer frame i t f free numbers room cache ≡ unless_refused (free_refusal (reg_info_of t).units free) (groups_in s i (patch_of free numbers) room)

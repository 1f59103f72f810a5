-- 02 k in a frame: what the rules answer to a call by groups of formula i. One share for all: how far the counter may go stands still during a call.
use Rattle.std.specs.Prelude.{ℕ, List}
use Rattle.reginfo.specs.Table.{reg_info_of}
use Rattle.function.specs.Table.{function_of}
use Rattle.rules.specs.Patch.{Answer}
use Rattle.rules.specs.Refusals.{with_limit}
use Rattle.slots.specs.Stacks.{cache_of}
use Rattle.parallel_moves.specs.Given.{with_made}
use Rattle.frame_table.specs.Table.{counter_of, reach_of}
use Rattle.group_calls.specs.Call.{call_by_groups}

abbrev pub groups_answer : (frame : List ℕ) (i : ℕ) (t f free numbers : List ℕ) (room : ℕ) (cache : List ℕ) → Answer
groups_answer frame i t f free numbers room cache =
    call_by_groups (reg_info_of t) (with_limit (reg_info_of t) (function_of f) (reach_of frame i)) free numbers room (with_made (counter_of frame) (cache_of cache))

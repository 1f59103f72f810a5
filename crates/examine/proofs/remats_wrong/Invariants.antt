-- `remats_wrong` meets its contract: whether one is wrong from the start equals whether one is from here.
use Prim.Native.Nat.{◌≤◌}
use mathlib.Core.Path.{◌≡◌}
use lib.ListN.{get_or, drop}
use Rattle.reginfo.specs.Table.{reg_info_of}
use Rattle.function.specs.Table.{function_of}
use Rattle.entries.specs.Table.{sorted_of}
use Rattle.examine_rules.specs.Examine.{generic_content}
use Rattle.cells.specs.Cells.{memory_of}
use Rattle.examine.specs.Ends.{remats_wrong, remats_at}
use Rattle.examine.proofs.remats_wrong.Given as goal

abbrev pub invariant-loop-i : goal.invariant-loop-i
invariant-loop-i l = (remats_wrong (reg_info_of l.t) (function_of l.f) (generic_content (reg_info_of l.t) (function_of l.f) (sorted_of l.e).moves) (memory_of l.c) (remats_at l.e l.base l.counter) ≡ remats_wrong (reg_info_of l.t) (function_of l.f) (generic_content (reg_info_of l.t) (function_of l.f) (sorted_of l.e).moves) (memory_of l.c) (drop l.i (remats_at l.e l.base l.counter))) × (l.i ≤ l.n) × (l.n ≡ get_or l.e l.counter 0)

-- `kept_wrong` meets its contract: whether one is wrong from the start equals whether one is from here.
use Prim.Native.Nat.{◌≤◌}
use mathlib.Core.Path.{◌≡◌}
use lib.ListN.{drop}
use Rattle.reginfo.specs.Table.{reg_info_of}
use Rattle.function.specs.Table.{function_of}
use Rattle.entries.specs.Table.{sorted_of}
use Rattle.examine_rules.specs.Examine.{generic_content}
use Rattle.cells.specs.Cells.{memory_of}
use Rattle.ties.specs.Ties.{kept}
use Rattle.examine.specs.Ends.{kept_wrong}
use Rattle.examine.proofs.kept_wrong.Given as goal

abbrev pub invariant-loop-m : goal.invariant-loop-m
invariant-loop-m l = (kept_wrong (reg_info_of l.t) (function_of l.f) (generic_content (reg_info_of l.t) (function_of l.f) (sorted_of l.e).moves) (memory_of l.c) (sorted_of l.e).moves ≡ kept_wrong (reg_info_of l.t) (function_of l.f) (generic_content (reg_info_of l.t) (function_of l.f) (sorted_of l.e).moves) (memory_of l.c) (drop l.m (sorted_of l.e).moves)) × (l.m ≤ kept l.e) × (l.n ≡ kept l.e)

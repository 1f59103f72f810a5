-- `run` meets its contract: the run from the start equals the run from here.
use Prim.Native.Nat.{◌≤◌}
use mathlib.Core.Path.{◌≡◌}
use lib.ListN.{length, drop}
use Rattle.reginfo.specs.Table.{reg_info_of}
use Rattle.function.specs.Table.{function_of}
use Rattle.entries.specs.Table.{sorted_of}
use Rattle.examine_rules.specs.Examine.{generic_content}
use Rattle.cells.specs.Cells.{memory_of, Short}
use Rattle.examine_run.specs.Ran.{ran}
use Rattle.examine_run.proofs.run.Given as goal

abbrev pub invariant-loop-word : goal.invariant-loop-word
invariant-loop-word l = (ran (reg_info_of l.t) (function_of l.f) (generic_content (reg_info_of l.t) (function_of l.f) (sorted_of l.e).moves) l.list (memory_of l.initial.c) ≡ ran (reg_info_of l.t) (function_of l.f) (generic_content (reg_info_of l.t) (function_of l.f) (sorted_of l.e).moves) (drop l.word-index l.list) (memory_of l.c)) × Short l.c × (l.word-index ≤ length l.list)

-- `lay` meets its contract: the sources from the index on hold their values, the last first.
use Prim.Native.Nat.{◌≤◌}
use mathlib.Core.Path.{◌≡◌}
use lib.ListN.{drop}
use Rattle.reginfo.specs.Table.{reg_info_of}
use Rattle.function.specs.Table.{function_of}
use Rattle.entries.specs.Table.{sorted_of}
use Rattle.examine_rules.specs.Examine.{laid}
use Rattle.cells.specs.Cells.{memory_of, Short}
use Rattle.ties.specs.Ties.{kept}
use Rattle.examine_run.proofs.lay.Given as goal

abbrev pub invariant-loop-m : goal.invariant-loop-m
invariant-loop-m l = (memory_of l.c ≡ laid (reg_info_of l.t) (function_of l.f) (sorted_of l.e).moves (drop l.m (sorted_of l.e).moves)) × Short l.c × (l.m ≤ kept l.e)

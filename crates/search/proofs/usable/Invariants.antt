-- `usable` meets its contract: whether all units are usable from the start equals whether they are from here.
use Prim.Native.Nat.{◌≤◌}
use mathlib.Core.Path.{◌≡◌}
use lib.ListN.{length}
use Rattle.reginfo.specs.RegInfo.{reg_units}
use Rattle.reginfo.specs.Table.{reg_info_of}
use Rattle.search.specs.Search.{usable_in}
use Rattle.search.proofs.Laws.{usable_from}
use Rattle.search.proofs.usable.Given as goal

abbrev pub invariant-loop-j : goal.invariant-loop-j
invariant-loop-j l = (usable_in (reg_info_of l.t) l.available l.sources l.cycle l.r.0 ≡ usable_from (reg_info_of l.t) l.available l.sources l.cycle l.r.0 l.j) × (l.j ≤ length (reg_units (reg_info_of l.t) l.r.0))

-- `add_part` meets its contract: entry by entry of the group.
use Prim.Native.Nat.{◌-◌}
use mathlib.Core.List.{List}
use Rattle.reginfo.specs.Table.{reg_info_of}
use Rattle.rules.specs.Patch.{Entry}
use Rattle.parallel_moves.specs.Given.{entries_of}
use Rattle.groups.specs.Given.{count_of, labels_in}
use Rattle.groups.proofs.Entries.{at}
use Rattle.groups.proofs.Chain.{At}
use Rattle.grouping.proofs.Adding.{owned, Adding}
use Rattle.grouping.proofs.add_part.Given as goal

abbrev pub invariant-loop-k : goal.invariant-loop-k
invariant-loop-k at = (l : List Entry) × At (labels_in (reg_info_of at.t) at.numbers) (entries_of at.numbers) (count_of at.numbers) at.first at.k l × Adding at.t at.f (owned (reg_info_of at.t) at.numbers at.first) at.e at.w l

abbrev pub decreases-loop-k : goal.decreases-loop-k
decreases-loop-k l = 256 - l.k

-- `part_free` meets its contract: entry by entry of the group.
use Prim.Native.Nat.{◌-◌}
use mathlib.Core.List.{List}
use lib.Dec.{eqb}
use Rattle.reginfo.specs.Table.{reg_info_of}
use Rattle.rules.specs.Patch.{Entry}
use Rattle.group_rules.specs.Groups.{chosen}
use Rattle.parallel_moves.specs.Given.{entries_of}
use Rattle.groups.specs.Given.{count_of, labels_in}
use Rattle.groups.proofs.Entries.{at}
use Rattle.groups.proofs.Chain.{At, FreeTo}
use Rattle.groups.proofs.part_free.Given as goal

abbrev pub invariant-loop-k : goal.invariant-loop-k
invariant-loop-k at = (l : List Entry) × At (labels_in (reg_info_of at.t) at.numbers) (entries_of at.numbers) (count_of at.numbers) at.g at.k l × FreeTo (reg_info_of at.t) (chosen (λ x. eqb x at.g) (labels_in (reg_info_of at.t) at.numbers) (entries_of at.numbers)) at.free at.common at.out l

abbrev pub decreases-loop-k : goal.decreases-loop-k
decreases-loop-k l = 256 - l.k

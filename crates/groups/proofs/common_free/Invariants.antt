-- `common_free` meets its contract: entry by entry.
use mathlib.Core.Path.{◌≡◌}
use Prim.Native.Nat.{◌≤◌}
use lib.ListN.{drop}
use Rattle.reginfo.specs.Table.{reg_info_of}
use Rattle.parallel_moves.specs.Given.{entries_of}
use Rattle.groups.specs.Given.{count_of}
use Rattle.groups.proofs.Chain.{CommonTo}
use Rattle.groups.proofs.common_free.Given as goal

abbrev pub invariant-loop-k : goal.invariant-loop-k
invariant-loop-k l = (l.k ≤ l.n) × (l.n ≡ count_of l.numbers) × CommonTo (reg_info_of l.t) (entries_of l.numbers) l.free l.out (drop l.k (entries_of l.numbers))

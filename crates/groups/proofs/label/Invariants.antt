-- `label` meets its contract: entry by entry.
use mathlib.Core.Path.{◌≡◌}
use Prim.Native.Nat.{◌≤◌}
use Rattle.reginfo.specs.Table.{reg_info_of}
use Rattle.parallel_moves.specs.Given.{entries_of}
use Rattle.groups.specs.Given.{count_of}
use Rattle.groups.specs.Noting.{AllNoted}
use Rattle.groups.proofs.label.Given as goal

abbrev pub invariant-loop-k : goal.invariant-loop-k
invariant-loop-k l = (l.k ≤ l.n) × (l.n ≡ count_of l.numbers) × AllNoted (reg_info_of l.t) (entries_of l.numbers) l.k l.owners l.labels

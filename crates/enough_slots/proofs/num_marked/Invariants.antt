-- n of the first sizes are marked.
use Prim.Native.Nat.{◌+◌, ◌-◌, ◌≤◌}
use mathlib.Core.Path.{◌≡◌}
use lib.ListN.{length}
use Rattle.entity.specs.Logic.{indices}
use Rattle.small_set.specs.Set.{set_of}
use Rattle.rules.specs.Edit.{filter}
use Rattle.machine.specs.Enough.{sizes_that}
use Rattle.enough_slots.proofs.num_marked.Given as goal

abbrev pub invariant-loop-marked : goal.invariant-loop-marked
invariant-loop-marked l = (sizes_that (set_of l.sizes) ≡ l.n + length (filter (set_of l.sizes) (indices l.marked-index (32 - l.marked-index)))) × (l.marked-index ≤ 32) × (l.n ≤ l.marked-index)

-- `resolve_parts` meets its contract: group by group.
use mathlib.Core.Path.{◌≡◌}
use Prim.Native.Nat.{◌≤◌}
use lib.ListN.{length}
use Rattle.rules.specs.Patch.{Patch}
use Rattle.slots.specs.Stacks.{cache_of}
use Rattle.parallel_moves.specs.Given.{Numbered}
use Rattle.groups.specs.Given.{count_of}
use Rattle.grouping.proofs.Going.{Going}
use Rattle.grouping.proofs.resolve_parts.Given as goal

abbrev pub invariant-loop-i : goal.invariant-loop-i
invariant-loop-i l = (l.i ≤ l.n) × (l.n ≡ count_of l.numbers) × (length l.joined ≡ 1024) × ((p : Patch) → Numbered l.free l.numbers p → Going l.limit l.t l.f p (cache_of l.initial.work) (count_of l.numbers) l.i l.work l.joined l.count l.met)

-- `copy_stack` meets its contract: slot by slot.
use mathlib.Core.Path.{◌≡◌}
use Prim.Native.Nat.{◌≤◌}
use Rattle.slots.specs.Stacks.{depth_of}
use Rattle.grouping.proofs.Copying.{Copying}
use Rattle.grouping.proofs.copy_stack.Given as goal

abbrev pub invariant-loop-i : goal.invariant-loop-i
invariant-loop-i l = (l.i ≤ l.depth) × (l.depth ≡ depth_of l.from l.z) × Copying l.from l.initial.to l.to l.z l.i

-- `copy_stacks` meets its contract: stack by stack.
use Prim.Native.Nat.{◌≤◌}
use Rattle.grouping.proofs.Copying.{Copies}
use Rattle.grouping.proofs.copy_stacks.Given as goal

abbrev pub invariant-loop-z : goal.invariant-loop-z
invariant-loop-z l = (l.z ≤ 32) × Copies l.from l.initial.to l.to l.z

-- `settle` meets its contract. The loop's invariant: i of those put back lie on what is left, and all else is as it was.
use Rattle.slots.proofs.Laws.{Settling}
use Rattle.slots.proofs.settle.Given as goal

abbrev pub invariant-loop-i : goal.invariant-loop-i
invariant-loop-i l = Settling l.slots l.initial.cache l.cache l.z l.left l.i

-- `commit` meets its contract. The loop's invariant: the stacks below z are settled, and the others are as they were.
use Rattle.slots.proofs.Laws.{Committing}
use Rattle.slots.proofs.commit.Given as goal

abbrev pub invariant-loop-z : goal.invariant-loop-z
invariant-loop-z l = Committing l.slots l.initial.cache l.cache l.z

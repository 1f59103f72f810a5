-- `join` meets its contract. The loop's invariant: the cells below i are renamed, and the others as they were.
use Rattle.groups.proofs.Tables.{Renaming}
use Rattle.groups.proofs.join.Given as goal

abbrev pub invariant-loop-i : goal.invariant-loop-i
invariant-loop-i l = Renaming l.a l.b l.initial.labels l.labels l.i

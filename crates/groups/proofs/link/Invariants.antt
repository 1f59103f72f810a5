-- `link` meets its contract: from the last entry back.
use Rattle.groups.proofs.Tables.{Linking}
use Rattle.groups.proofs.link.Given as goal

abbrev pub invariant-loop-i : goal.invariant-loop-i
invariant-loop-i l = Linking l.labels l.n l.next l.heads l.i

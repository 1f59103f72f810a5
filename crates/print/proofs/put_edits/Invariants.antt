-- `put_edits` meets its contract: the lines of the first words, one by one.
use Rattle.print.proofs.Printing.{Listing}
use Rattle.print.proofs.put_edits.Given as goal

abbrev pub invariant-loop-i : goal.invariant-loop-i
invariant-loop-i l = Listing l.initial.out l.list l.n l.count l.out l.at l.i

-- The numbers read so far stand at the front of the lent ones.
use Rattle.schedule.proofs.Reading.{Listing}
use Rattle.schedule.proofs.read_numbers.Given as goal

abbrev pub invariant-loop-i : goal.invariant-loop-i
invariant-loop-i l = Listing l.s l.from l.n l.numbers l.at l.i

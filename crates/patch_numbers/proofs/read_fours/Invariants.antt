use Rattle.patch_numbers.proofs.Steps.{Keeping}
use Rattle.patch_numbers.proofs.read_fours.Given as goal

abbrev pub invariant-loop-i : goal.invariant-loop-i
invariant-loop-i l = Keeping l.s l.at l.n l.numbers l.q l.i

-- `put_answer` meets its contract: the lines of the first words stand there, and the next patch has the next number.
use Rattle.answer_text.proofs.Lines.{Printing}
use Rattle.answer_text.proofs.put_answer.Given as goal

abbrev pub invariant-loop-i : goal.invariant-loop-i
invariant-loop-i l = Printing l.initial.out l.words l.out l.n l.k l.i

-- `put_text` meets its contract: the first bytes stand there.
use Rattle.print.proofs.Putting.{Copying}
use Rattle.print.proofs.put_text.Given as goal

abbrev pub invariant-loop-i : goal.invariant-loop-i
invariant-loop-i l = Copying l.initial.out l.text l.n l.out l.i

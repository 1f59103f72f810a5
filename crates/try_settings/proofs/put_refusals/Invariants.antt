-- `put_refusals` meets its contract: number by number.
use borrow.Author.Rules.{rules}
use Rattle.print.proofs.Putting as putting
use Rattle.try_settings.proofs.Laws.{Refusing, refusing-start, refusing-step, refusing-end}
use Rattle.try_settings.proofs.put_refusals.Given as goal

abbrev pub invariant-loop-j : goal.invariant-loop-j
invariant-loop-j l = Refusing l.one l.two l.initial.out l.n l.out l.at l.j

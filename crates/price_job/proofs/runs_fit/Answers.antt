-- `runs_fit` meets its contract.
use borrow.Author.Rules.{rules}
use borrow.Author.Tests.{eq-eqb, ne_eqb}
use Rattle.price_job.proofs.runs_fit.Goals as goal

pub returns-then-given-eq0 : goal.returns-then-given-eq0
returns-then-given-eq0 c = rw (eq-eqb _ 0 c.if-given-eq0.true)

pub returns : goal.returns
returns c = rw (ne_eqb _ 0 c.if-given-eq0.false)

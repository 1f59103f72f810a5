-- `relabelled` meets its contract.
use borrow.Author.Tests.{eq-eqb, ne_eqb}
use Rattle.groups.proofs.relabelled.Goals as goal

pub returns-then-x-a : goal.returns-then-x-a
returns-then-x-a c = rw (eq-eqb _ _ c.if-x-a.true)

pub returns-then-x-b : goal.returns-then-x-b
returns-then-x-b c = rw (ne_eqb _ _ c.if-x-a.false, eq-eqb _ _ c.if-x-b.true)

pub returns : goal.returns
returns c = rw (ne_eqb _ _ c.if-x-a.false, ne_eqb _ _ c.if-x-b.false)

-- `Allocation::kind` meets its contract: an odd code is a register's.
use borrow.Author.Tests.{eq-eqb, ne_eqb}
use Rattle.entity.specs.Place.{place_at}
use Rattle.entity.proofs.Allocation.kind.Goals as goal

pub returns-then-c-eq1 : goal.returns-then-c-eq1
unfolding place_at
returns-then-c-eq1 c = rw (eq-eqb _ 1 c.if-c-eq1.true)

pub returns : goal.returns
unfolding place_at
returns c = rw (ne_eqb _ 1 c.if-c-eq1.false)

-- `Allocation::read` meets its contract: the code's place, where it names one.
use borrow.Author.Tests.{eq-eqb, ne_eqb, lt-ltb, le-ltb}
use Rattle.entity.specs.Place.{place_at, read_place}
use Rattle.entity.proofs.Allocation.read.Goals as goal

pub returns-then-i-regs : goal.returns-then-i-regs
unfolding read_place place_at
returns-then-i-regs c = rw (eq-eqb _ 1 c.if-code-eq1.true, lt-ltb _ _ c.if-i-regs.true)

pub returns-then-code-eq1 : goal.returns-then-code-eq1
unfolding read_place place_at
returns-then-code-eq1 c = rw (eq-eqb _ 1 c.if-code-eq1.true, le-ltb _ _ c.if-i-regs.false)

pub returns-then-i-slots : goal.returns-then-i-slots
unfolding read_place place_at
returns-then-i-slots c = rw (ne_eqb _ 1 c.if-code-eq1.false, lt-ltb _ _ c.if-i-slots.true)

pub returns : goal.returns
unfolding read_place place_at
returns c = rw (ne_eqb _ 1 c.if-code-eq1.false, le-ltb _ _ c.if-i-slots.false)

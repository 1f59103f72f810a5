-- A number, and whether it lies from low to high.
use Rattle.reading.proofs.Laws.{no_number, passes, fails, between-true, between-low, between-high}
use borrow.Author.Rules.{rules}
use Rattle.reading.proofs.between.Goals as goal

pub returns-then-x-low : goal.returns-then-x-low
returns-then-x-low c = fails _ _ _ _ _ (rw c.in-Is.is at c.read.ensures) (between-low _ _ _ c.if-x-low.true)

pub returns-then-x-high : goal.returns-then-x-high
returns-then-x-high c = passes _ _ _ _ _ (rw c.in-Is.is at c.read.ensures) (between-true _ _ _ c.if-x-low.false c.if-x-high.true)

pub returns-in-Refused : goal.returns-in-Refused
returns-in-Refused c = no_number _ _ _ _ (rw c.in-Refused.is at c.read.ensures)

pub returns-else-x-high : goal.returns-else-x-high
returns-else-x-high c = fails _ _ _ _ _ (rw c.in-Is.is at c.read.ensures) (between-high _ _ _ c.if-x-high.false)

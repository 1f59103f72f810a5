-- A number, and whether it is below n.
use borrow.Author.Tests.{lt-ltb, le-ltb}
use Rattle.reading.proofs.Laws.{no_number, passes, fails}
use borrow.Author.Rules.{rules}
use Rattle.reading.proofs.below.Goals as goal

pub returns-then-x-n : goal.returns-then-x-n
returns-then-x-n c = passes _ _ _ _ _ (rw c.in-Is.is at c.read.ensures) (lt-ltb _ _ c.if-x-n.true)

pub returns-in-Refused : goal.returns-in-Refused
returns-in-Refused c = no_number _ _ _ _ (rw c.in-Refused.is at c.read.ensures)

pub returns-else-x-n : goal.returns-else-x-n
returns-else-x-n c = fails _ _ _ _ _ (rw c.in-Is.is at c.read.ensures) (le-ltb _ _ c.if-x-n.false)

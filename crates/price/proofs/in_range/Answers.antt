-- `in_range` meets its contract: the tests in the order of the definition.
use borrow.Author.Tests.{le-leb, lt-leb}
use Rattle.price.specs.Price.{in_range}
use Rattle.price.proofs.in_range.Goals as goal

pub returns-then-p-gt65535 : goal.returns-then-p-gt65535
unfolding in_range
returns-then-p-gt65535 c = rw (lt-leb _ _ c.if-p-gt65535.true)

pub returns-then-p-gt65535-2 : goal.returns-then-p-gt65535-2
unfolding in_range
returns-then-p-gt65535-2 c = rw (le-leb _ _ c.if-p-gt65535.false, lt-leb _ _ c.if-p-gt65535-2.true)

pub returns-then-p-gt65535-3 : goal.returns-then-p-gt65535-3
unfolding in_range
returns-then-p-gt65535-3 c = rw (le-leb _ _ c.if-p-gt65535.false, le-leb _ _ c.if-p-gt65535-2.false, lt-leb _ _ c.if-p-gt65535-3.true)

pub returns : goal.returns
unfolding in_range
returns c = rw (le-leb _ _ c.if-p-gt65535.false, le-leb _ _ c.if-p-gt65535-2.false, le-leb _ _ c.if-p-gt65535-3.false)

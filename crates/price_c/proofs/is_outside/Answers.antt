-- `is_outside` meets its contract.
use mathlib.Core.Path.{ap}
use borrow.Author.Tests.{le-leb, lt-leb}
use Rattle.entity.specs.Logic.{no}
use Rattle.price_c.proofs.is_outside.Goals as goal

pub returns-then-runs-ge67108864 : goal.returns-then-runs-ge67108864
returns-then-runs-ge67108864 c = rw (le-leb _ _ c.if-runs-ge67108864.true)

pub returns : goal.returns
returns c = rw (lt-leb _ _ c.if-runs-ge67108864.false) (ap no c.in_range.ensures)

-- `stops` meets its contract.
use borrow.Author.Tests.{le-ltb, lt-ltb}
use Rattle.price_text.proofs.stops.Goals as goal

pub returns-then-runs-i : goal.returns-then-runs-i
returns-then-runs-i c = rw (le-ltb _ _ c.if-runs-i.true)

pub returns : goal.returns
returns c = rw (lt-ltb _ _ c.if-runs-i.false)

-- `narrow` meets its contract.
use borrow.Author.Tests.{lt-ltb, le-ltb}
use Rattle.arguments.proofs.narrow.Goals as goal

pub returns-then-n-lt4294967295 : goal.returns-then-n-lt4294967295
returns-then-n-lt4294967295 c = rw (lt-ltb _ 4294967295 c.if-n-lt4294967295.true)

pub returns : goal.returns
returns c = rw (le-ltb _ 4294967295 c.if-n-lt4294967295.false)

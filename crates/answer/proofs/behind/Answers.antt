use borrow.Author.Tests.{lt-ltb, le-ltb}
use Rattle.answer.proofs.behind.Goals as goal

pub returns-then-n-len : goal.returns-then-n-len
returns-then-n-len c = simp (lt-ltb _ _ c.if-n-len.true)

pub returns : goal.returns
returns c = simp (le-ltb _ _ c.if-n-len.false)

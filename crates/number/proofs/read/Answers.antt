-- `read` meets its contract: no byte, one byte, or more.
use Rattle.number.proofs.Reading.{past_end, one_byte}
use Rattle.number.proofs.read.Goals as goal

pub returns-then-s-at : goal.returns-then-s-at
returns-then-s-at c = past_end _ _ c.if-s-at.true

pub returns-then-b-lt128 : goal.returns-then-b-lt128
returns-then-b-lt128 c = one_byte _ _ c.if-s-at.false c.if-b-lt128.true

-- `next_number` meets its contract: one more after a head.
use mathlib.Core.Path.{sym, ◌∙◌}
use Rattle.answer_text.proofs.next_number.Goals as goal

pub returns-then-is_head : goal.returns-then-is_head
returns-then-is_head c = rw (sym c.is_head.ensures ∙ c.if-is_head.true)

pub returns : goal.returns
returns c = rw (sym c.is_head.ensures ∙ c.if-is_head.false)

use mathlib.Core.Path.{◌∙◌}
use Rattle.frame_calls.proofs.Opening.{least_first, least_other}
use Rattle.frame_calls.proofs.least_slots.Goals as goal

pub returns-then-i-eq0 : goal.returns-then-i-eq0
returns-then-i-eq0 c = least_first c.args.frame.now _ c.if-i-eq0.true

pub returns : goal.returns
returns c = c.slots.ensures ∙ least_other c.args.frame.now _ c.if-i-eq0.false

use mathlib.Core.Path.{◌∙◌}
use Rattle.frame_table.proofs.Laws.{beside-own, beside-other}
use Rattle.frame_table.proofs.lacks_beside.Goals as goal

pub returns-then-j-i : goal.returns-then-j-i
returns-then-j-i c = beside-own c.args.frame.now _ _ c.if-j-i.true

pub returns : goal.returns
returns c = c.lacks.ensures ∙ beside-other c.args.frame.now _ _ c.if-j-i.false

use mathlib.Core.Path.{sym, ◌∙◌}
use Rattle.scratch.proofs.bringing_back.overlaps_end.Goals as goal

pub overlaps_reg-requires : goal.overlaps_reg-requires
overlaps_reg-requires c = let pre = c.requires in (pre.1, pre.2)

pub returns-then-overlaps_reg : goal.returns-then-overlaps_reg
returns-then-overlaps_reg c = rw (sym c.overlaps_reg.ensures.0 ∙ c.if-overlaps_reg.true)

pub overlaps_reg-requires-2 : goal.overlaps_reg-requires-2
overlaps_reg-requires-2 c = let pre = c.requires in (pre.0, pre.2)

pub returns : goal.returns
returns c = rw (sym c.overlaps_reg.ensures.0 ∙ c.if-overlaps_reg.false) c.overlaps_reg-2.ensures.0

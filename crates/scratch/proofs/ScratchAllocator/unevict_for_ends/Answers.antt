use mathlib.Core.Path.{sym, ◌∙◌}
use mathlib.Core.List.{[]}
use Rattle.reginfo.proofs.Accepted.{known-units}
use Rattle.scratch.proofs.Bounds.{all_fit}
use Rattle.scratch.proofs.Bringing.{none-ends, ends-apart-one, ends-met-one, for-ends}
use Rattle.scratch.proofs.ScratchAllocator.unevict_for_ends.Goals as goal

pub overlaps_end-requires : goal.overlaps_end-requires
overlaps_end-requires c = let pre = c.requires in (pre.1, pre.2, known-units _ pre.0.target _ (all_fit (sym c.evicted-e.ensures ∙ c.in-One.is) pre.3).0)

pub unevict_all-requires : goal.unevict_all-requires
unevict_all-requires c = let pre = c.requires in (pre.0, pre.3)

pub returns-then-overlaps_end : goal.returns-then-overlaps_end
returns-then-overlaps_end c = λ available. ends-met-one _ _ _ _ _ _ (sym c.evicted-e.ensures ∙ c.in-One.is) _ _ _ c.overlaps_end.ensures c.if-overlaps_end.true _ _ (c.unevict_all.ensures available)

pub unevict_for_reg-first-requires : goal.unevict_for_reg-first-requires
unevict_for_reg-first-requires c = let pre = c.requires in (pre.0, pre.2, pre.3)

pub unevict_for_reg-requires : goal.unevict_for_reg-requires
unevict_for_reg-requires c = let pre = c.requires in (pre.0, pre.1, (c.unevict_for_reg-first.ensures []).fits 0 0 0 pre.3)

pub returns-in-Nothing : goal.returns-in-Nothing
returns-in-Nothing c = λ available. none-ends _ _ _ _ _ _ _ (sym c.evicted-e.ensures ∙ c.in-Nothing.is)

pub returns-else-overlaps_end : goal.returns-else-overlaps_end
returns-else-overlaps_end c = λ available. ends-apart-one _ _ _ _ _ _ (sym c.evicted-e.ensures ∙ c.in-One.is) _ _ _ c.overlaps_end.ensures c.if-overlaps_end.false

pub returns-in-Two : goal.returns-in-Two
returns-in-Two c = λ available. for-ends _ _ _ _ _ _ _ _ _ _ _ (c.unevict_for_reg-first.ensures available) (c.unevict_for_reg.ensures available)

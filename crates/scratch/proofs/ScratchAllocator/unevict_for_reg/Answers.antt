use mathlib.Core.Path.{sym, ◌∙◌}
use Rattle.reginfo.proofs.Accepted.{known-units}
use Rattle.scratch.proofs.Bounds.{all_fit}
use Rattle.scratch.proofs.Bringing.{none-for, one_apart, one-met}
use Rattle.scratch.proofs.ScratchAllocator.unevict_for_reg.Goals as goal

pub overlaps_reg-requires : goal.overlaps_reg-requires
overlaps_reg-requires c = let pre = c.requires in (pre.1, known-units _ pre.0.target _ (all_fit (sym c.evicted-e.ensures ∙ c.in-One.is) pre.2).0)

pub unevict_all-requires : goal.unevict_all-requires
unevict_all-requires c = let pre = c.requires in (pre.0, pre.2)

pub returns-then-overlaps_reg : goal.returns-then-overlaps_reg
returns-then-overlaps_reg c = λ available. one-met _ _ _ _ _ _ (sym c.evicted-e.ensures ∙ c.in-One.is) _ _ c.overlaps_reg.ensures.0 c.if-overlaps_reg.true _ _ (c.unevict_all.ensures available)

pub unevict_of_two-requires : goal.unevict_of_two-requires
unevict_of_two-requires c = let pre = c.requires in (pre.0, pre.1, sym c.evicted-e.ensures ∙ c.in-Two.is, pre.2)

pub returns-in-Nothing : goal.returns-in-Nothing
returns-in-Nothing c = λ available. none-for _ _ _ _ _ _ (sym c.evicted-e.ensures ∙ c.in-Nothing.is)

pub returns-else-overlaps_reg : goal.returns-else-overlaps_reg
returns-else-overlaps_reg c = λ available. one_apart _ _ _ _ _ _ (sym c.evicted-e.ensures ∙ c.in-One.is) _ _ c.overlaps_reg.ensures.0 c.if-overlaps_reg.false

pub returns-in-Two : goal.returns-in-Two
returns-in-Two c = c.unevict_of_two.ensures

use mathlib.Core.Path.{sym, ◌∙◌}
use Rattle.scratch.proofs.Bounds.{all_fit}
use Rattle.scratch.proofs.Outcomes.{found-held}
use Rattle.scratch.proofs.ScratchAllocator.reuse.Goals as goal

pub evict-requires : goal.evict-requires
evict-requires c = c.requires

pub reuse_held-requires : goal.reuse_held-requires
reuse_held-requires c = let pre = c.requires in (pre.0, all_fit (sym c.evicted-e.ensures ∙ c.in-One.is) pre.1, pre.1)

pub reuse_of_two-requires : goal.reuse_of_two-requires
reuse_of_two-requires c =
    let pre = c.requires in
    let h = all_fit (sym c.evicted-e.ensures ∙ c.in-Two.is) pre.1 in
    (pre.0, h.0, h.1, pre.1)

pub returns-in-Nothing : goal.returns-in-Nothing
returns-in-Nothing c = λ available. found-held _ _ _ _ _ _ _ _ _ _ _ (sym c.evicted-e.ensures ∙ c.in-Nothing.is) (c.evict.ensures available)

pub returns-in-One : goal.returns-in-One
returns-in-One c = λ available. found-held _ _ _ _ _ _ _ _ _ _ _ (sym c.evicted-e.ensures ∙ c.in-One.is) (c.reuse_held.ensures available)

pub returns-in-Two : goal.returns-in-Two
returns-in-Two c = λ available. found-held _ _ _ _ _ _ _ _ _ _ _ (sym c.evicted-e.ensures ∙ c.in-Two.is) (c.reuse_of_two.ensures available)

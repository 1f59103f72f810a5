use mathlib.Core.Path.{ap}
use native.Mathlib.Omega.{arith}
use Rattle.reginfo.proofs.Accepted.{known-units}
use Rattle.scratch.specs.declared.Evicted.TheVariants.{One}
use Rattle.scratch.specs.State.{owed}
use Rattle.scratch.proofs.Packed.{small}
use Rattle.scratch.proofs.Bounds.{let_go, all_fit}
use Rattle.scratch.proofs.Bringing.{two-met, older-met, newer-met, neither-met}
use Rattle.scratch.proofs.ScratchAllocator.unevict_of_two.Goals as goal

pub overlaps_reg-met-requires : goal.overlaps_reg-met-requires
overlaps_reg-met-requires c = let pre = c.requires in (pre.1, known-units _ pre.0.target _ (all_fit pre.2 pre.3).0.0)

pub overlaps_reg-requires : goal.overlaps_reg-requires
overlaps_reg-requires c = let pre = c.requires in (pre.1, known-units _ pre.0.target _ (all_fit pre.2 pre.3).1.0)

pub unevict_all-requires : goal.unevict_all-requires
unevict_all-requires c = let pre = c.requires in (pre.0, pre.3)

pub returns-then-met : goal.returns-then-met
returns-then-met c = λ available. two-met _ _ _ _ _ _ _ c.requires.2 _ _ _ c.overlaps_reg-met.ensures.0 c.overlaps_reg.ensures.0 c.if-met.true c.if-overlaps_reg.true _ _ (c.unevict_all.ensures available)

pub unevict_older-requires : goal.unevict_older-requires
unevict_older-requires c = let pre = c.requires in (pre.0, pre.2, pre.3)

pub returns-then-overlaps_reg : goal.returns-then-overlaps_reg
returns-then-overlaps_reg c = λ available. older-met _ _ _ _ _ _ _ c.requires.2 _ _ _ c.overlaps_reg-met.ensures.0 c.overlaps_reg.ensures.0 c.if-met.false c.if-overlaps_reg.true _ _ (c.unevict_older.ensures available)

pub one-k-requires : goal.one-k-requires
one-k-requires c = let pre = c.requires in small _ pre.0.target _ (all_fit pre.2 pre.3).1

pub bring_back-requires : goal.bring_back-requires
bring_back-requires c =
    let pre = c.requires in
    let h = all_fit pre.2 pre.3 in
    (pre.0, h.0, let_go (One _) 1 c.one-k.ensures h.1 (omega (arith, ap owed pre.2)) pre.3)

pub returns-then-met-2 : goal.returns-then-met-2
returns-then-met-2 c = λ available. newer-met _ _ _ _ _ _ _ c.requires.2 _ _ _ c.overlaps_reg-met.ensures.0 c.overlaps_reg.ensures.0 c.if-met-2.true c.if-overlaps_reg.false _ _ _ c.one-k.ensures (c.bring_back.ensures available)

pub returns : goal.returns
returns c = λ available. neither-met _ _ _ _ _ _ _ c.requires.2 _ _ _ c.overlaps_reg-met.ensures.0 c.overlaps_reg.ensures.0 c.if-met-2.false c.if-overlaps_reg.false

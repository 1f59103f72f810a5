use mathlib.Core.Path.{sym, ap, ◌∙◌}
use mathlib.Core.List.{[]}
use native.Mathlib.Omega.{arith}
use Rattle.scratch.specs.declared.Evicted.TheVariants.{Nothing}
use Rattle.scratch.specs.State.{owed}
use Rattle.scratch.proofs.Bounds.{let_go, all_fit}
use Rattle.scratch.proofs.Bringing.{none-all, one-all, two-all}
use Rattle.scratch.proofs.ScratchAllocator.unevict_all.Goals as goal

pub bring_back-requires : goal.bring_back-requires
bring_back-requires c =
    let pre = c.requires in
    let q = sym c.evicted-e.ensures ∙ c.in-One.is in
    (pre.0, all_fit q pre.1, let_go Nothing 1 c.none-k.ensures tt (omega (arith, ap owed q)) pre.1)

pub bring_back-left-requires : goal.bring_back-left-requires
bring_back-left-requires c =
    let pre = c.requires in
    let q = sym c.evicted-e.ensures ∙ c.in-Two.is in
    (pre.0, (all_fit q pre.1).1, let_go Nothing 1 c.none-k.ensures tt (omega (arith, ap owed q)) pre.1)

pub bring_back-requires-in-Two : goal.bring_back-requires-in-Two
bring_back-requires-in-Two c =
    let pre = c.requires in
    let q = sym c.evicted-e.ensures ∙ c.in-Two.is in
    (pre.0, (all_fit q pre.1).0, (c.bring_back-left.ensures []).fits 0 0 1 (let_go Nothing 2 c.none-k.ensures tt (omega (arith, ap owed q)) pre.1))

pub returns-in-Nothing : goal.returns-in-Nothing
returns-in-Nothing c = λ available. none-all _ _ _ _ _ (sym c.evicted-e.ensures ∙ c.in-Nothing.is)

pub returns-in-One : goal.returns-in-One
returns-in-One c = λ available. one-all _ _ _ _ _ _ (sym c.evicted-e.ensures ∙ c.in-One.is) _ _ _ c.none-k.ensures (c.bring_back.ensures available)

pub returns-in-Two : goal.returns-in-Two
returns-in-Two c = λ available. two-all _ _ _ _ _ _ _ (sym c.evicted-e.ensures ∙ c.in-Two.is) _ _ _ _ _ c.none-k.ensures (c.bring_back-left.ensures available) (c.bring_back-in-Two.ensures available)

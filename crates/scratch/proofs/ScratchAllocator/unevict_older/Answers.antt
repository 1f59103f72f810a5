use mathlib.Core.Path.{ap}
use native.Mathlib.Omega.{arith}
use Rattle.scratch.specs.declared.Evicted.TheVariants.{One}
use Rattle.scratch.specs.State.{owed}
use Rattle.scratch.proofs.Packed.{small}
use Rattle.scratch.proofs.Bounds.{let_go, all_fit}
use Rattle.scratch.proofs.Bringing.{two-older}
use Rattle.scratch.proofs.ScratchAllocator.unevict_older.Goals as goal

pub one-k-requires : goal.one-k-requires
one-k-requires c = let pre = c.requires in small _ pre.0.target _ (all_fit pre.1 pre.2).0

pub bring_back-requires : goal.bring_back-requires
bring_back-requires c =
    let pre = c.requires in
    let h = all_fit pre.1 pre.2 in
    (pre.0, h.1, let_go (One _) 1 c.one-k.ensures h.0 (omega (arith, ap owed pre.1)) pre.2)

pub returns : goal.returns
returns c = λ available. two-older _ _ _ _ _ _ _ c.requires.1 _ _ _ c.one-k.ensures (c.bring_back.ensures available)

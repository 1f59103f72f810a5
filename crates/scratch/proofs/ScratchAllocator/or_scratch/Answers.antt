-- `scratch::ScratchAllocator::or_scratch` meets its contract.
use mathlib.Core.Path.{sym, ◌∙◌}
use native.Mathlib.Omega.{arith}
use Rattle.reginfo.proofs.Accepted.{known-class, order-fits}
use Rattle.scratch.proofs.Bounds.{stocked, met-one}
use Rattle.scratch.proofs.Outcomes.{found-slotted, found-reused}
use Rattle.scratch.proofs.ScratchAllocator.or_scratch.Goals as goal

pub order_len-n-requires : goal.order_len-n-requires
order_len-n-requires c = known-class _ c.requires.0.target _ c.requires.2

pub overflow_cast-n : goal.overflow_cast-n
overflow_cast-n c = let pre = c.requires in omega (arith, c.order_len-n.ensures, order-fits _ pre.0.target _ pre.2)

pub class_includes_spillslots-requires : goal.class_includes_spillslots-requires
class_includes_spillslots-requires c = let pre = c.requires in known-class _ pre.0.target _ pre.2

pub returns-then-class_includes_spillslots : goal.returns-then-class_includes_spillslots
returns-then-class_includes_spillslots c =
    let s = c in
    λ available. found-slotted _ _ _ _ _ _ _ (stocked s.requires.3).put c.meet.ensures _ _ _ _ c.order_len-n.ensures _ c.class_includes_spillslots.ensures c.if-class_includes_spillslots.true (c.slot_scratch.ensures s.args.edits.now available)

pub reuse-requires : goal.reuse-requires
reuse-requires c =
    let pre = c.requires in
    (record { checked = pre.0; bank = pre.1; class = pre.2; slotless = sym c.class_includes_spillslots.ensures ∙ c.if-class_includes_spillslots.false }, met-one c.meet.ensures pre.3)

pub returns : goal.returns
returns c =
    let s = c in
    λ available. found-reused _ _ _ _ _ _ _ (stocked s.requires.3).put c.meet.ensures _ _ _ _ c.order_len-n.ensures _ c.class_includes_spillslots.ensures c.if-class_includes_spillslots.false (c.reuse.ensures available)

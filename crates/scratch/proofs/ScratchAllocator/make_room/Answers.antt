use mathlib.Core.Path.{sym, ap, ◌∙◌}
use mathlib.Core.List.{[]}
use native.Mathlib.Omega.{arith}
use Rattle.reginfo.proofs.Accepted.{known-class, order-some, order-fits, regs-fit}
use Rattle.scratch.specs.State.{owed}
use Rattle.scratch.proofs.Outcomes.{last-low, reg-fits}
use Rattle.scratch.proofs.Bringing.{none-room, made-room, room-owed}
use Rattle.scratch.proofs.ScratchAllocator.make_room.Goals as goal

pub order_last-last-requires : goal.order_last-last-requires
order_last-last-requires c =
    let ok = c.requires.0 in
    let t = ok.checked.target in
    (known-class _ t _ ok.class, order-some _ t _ ok.class ok.slotless, order-fits _ t _ ok.class)

pub reg-requires : goal.reg-requires
reg-requires c = let ok = c.requires.0 in omega (arith, last-low _ _ _ _ ok _ c.order_last-last.ensures, (regs-fit _ ok.checked.target).1)

pub unevict_for_reg-k-requires : goal.unevict_for_reg-k-requires
unevict_for_reg-k-requires c =
    let pre = c.requires in
    (pre.0.checked, (reg-fits _ _ [] _ _ pre.0.checked c.reg.ensures (last-low _ _ _ _ pre.0 _ c.order_last-last.ensures)).known, pre.1)

pub unevict_rest-requires : goal.unevict_rest-requires
unevict_rest-requires c = let pre = c.requires in (pre.0.checked, (c.unevict_for_reg-k.ensures []).fits 0 0 0 pre.1)

pub returns-in_default : goal.returns-in_default
returns-in_default c = record {
  result_bound = room-owed _ _ _ _ _ _ _ _ c.requires.0.checked (made-room _ _ _ _ _ _ _ _ _ _ _ _ c.reg.ensures c.order_last-last.ensures (c.unevict_for_reg-k.ensures []) (c.unevict_rest.ensures []));
  brought = λ available. made-room _ _ _ _ _ _ _ _ _ _ _ _ c.reg.ensures c.order_last-last.ensures (c.unevict_for_reg-k.ensures available) (c.unevict_rest.ensures available);
}

pub returns : goal.returns
returns c = let q = sym c.evicted-e.ensures ∙ c.in-Nothing.is in record { result_bound = omega (arith, ap owed q); brought = λ available. none-room _ _ _ _ _ _ q }

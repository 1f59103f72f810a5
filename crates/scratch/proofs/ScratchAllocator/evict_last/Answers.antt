use mathlib.Core.Path.{refl, ap}
use native.Mathlib.Omega.{arith}
use Rattle.reginfo.proofs.Accepted.{known-bank, known-class, size_fits, order-some, order-fits, regs-fit, banks-fit}
use Rattle.scratch.specs.State.{owed}
use Rattle.scratch.proofs.Packed.{held_small}
use Rattle.scratch.proofs.Bounds.{stocked}
use Rattle.scratch.proofs.Outcomes.{last-low, found-last}
use Rattle.scratch.proofs.ScratchAllocator.evict_last.Goals as goal

pub spillslot_size-z-requires : goal.spillslot_size-z-requires
spillslot_size-z-requires c = known-bank _ c.requires.0.checked.target _ c.requires.0.bank

pub acquire-got-requires : goal.acquire-got-requires
acquire-got-requires c =
    let pre = c.requires in
    (pre.0.checked, omega (arith, c.spillslot_size-z.ensures, size_fits _ pre.0.checked.target _ pre.0.bank), stocked pre.2)

pub order_last-r-requires : goal.order_last-r-requires
order_last-r-requires c =
    let ok = c.requires.0 in
    let t = ok.checked.target in
    (known-class _ t _ ok.class, order-some _ t _ ok.class ok.slotless, order-fits _ t _ ok.class)

pub push_reload-requires : goal.push_reload-requires
push_reload-requires c =
    let pre = c.requires in
    let got = c.acquire-got.ensures in
    let low = last-low _ _ _ _ pre.0 _ c.order_last-r.ensures in
    (omega (arith, (got.fits 0 0 2 _ pre.2).few), omega (arith, low, (regs-fit _ pre.0.checked.target).1), got.small)

pub hold-held-requires : goal.hold-held-requires
hold-held-requires c =
    let pre = c.requires in
    let t = pre.0.checked.target in
    let got = c.acquire-got.ensures in
    let low = last-low _ _ _ _ pre.0 _ c.order_last-r.ensures in
    (omega (arith, ap owed got.kept, pre.1), (omega (arith, low, (regs-fit _ t).1), got.small, omega (arith, pre.0.bank, (banks-fit _ t).1)), rw got.kept (held_small t pre.2))

pub reg-requires : goal.reg-requires
reg-requires c =
    let pre = c.requires in
    let low = last-low _ _ _ _ pre.0 _ c.order_last-r.ensures in
    omega (arith, low, (regs-fit _ pre.0.checked.target).1)

pub returns : goal.returns
returns c = λ available. found-last _ _ _ _ _ _ _ _ _ _ _ _ _ _ _ _ _ c.requires.0 c.spillslot_size-z.ensures c.acquire-got.ensures c.order_last-r.ensures refl c.push_reload.ensures refl c.hold-held.ensures c.reg.ensures

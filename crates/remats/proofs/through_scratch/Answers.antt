-- `through_scratch` meets its contract.
use native.Mathlib.Omega.{arith}
use Rattle.slots.proofs.Laws.{fits_more}
use Rattle.scratch.proofs.Bounds.{fewer}
use Rattle.scratch.specs.Promises.{tables}
use Rattle.remats.proofs.RemattedWithScratch.{through}
use Rattle.remats.proofs.through_scratch.Goals as goal

pub move_edits-moved-requires : goal.move_edits-moved-requires
move_edits-moved-requires c = let pre = c.requires in (pre.0, fewer (omega arith) (omega arith) (omega arith) pre.1)

pub push_remat-requires : goal.push_remat-requires
push_remat-requires c =
    let pre = c.requires in
    let left = c.move_edits-moved.ensures.fits 0 0 1 pre.1 in
    (omega (arith, left.few), record { to-small = pre.0.from-fits.small; from-small = omega arith; value-small = pre.0.value })

pub release_place-released-requires : goal.release_place-released-requires
release_place-released-requires c =
    let pre = c.requires in
    let left = c.move_edits-moved.ensures.fits 0 0 1 pre.1 in
    (pre.0.checked, pre.0.bank, pre.0.from-fits, fits_more left.most 1023 _ (omega (arith, left.own, left.few)) left.put)

pub returns : goal.returns
returns c =
    let a = c.args in
    let moved = c.move_edits-moved in
    let e = c.push_remat.new.e in
    let released = c.release_place-released in
    let l = a.available.now in
    through _ _ _ _ _ a.to.0 a.p.0 _ moved.result released.result _ _ (tables moved.new.edits l moved.new.slots) e _ _ moved.ensures c.push_remat.ensures
    (released.ensures a.cache.now e l) c.make_available.ensures.0 (c.make_available.ensures.1 a.f.now a.cache.now e released.new.slots)

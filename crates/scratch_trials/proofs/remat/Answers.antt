-- `scratch_trials::rebuild` meets its contract.
use native.Mathlib.Omega.{arith}
use mathlib.Core.List.{[]}
use Rattle.function.proofs.Laws.{known-value, few-values, bank-there}
use Rattle.scratch.proofs.Bounds.{fewer, pushed}
use Rattle.scratch.specs.Promises.{tables}
use Rattle.slots.proofs.Laws.{fits_more}
use Rattle.scratch_trials.proofs.Laws.{through-remat}
use Rattle.scratch_trials.proofs.remat.Goals as goal

pub value_bank-b-requires : goal.value_bank-b-requires
value_bank-b-requires c = known-value _ _ c.requires.0.function _ c.requires.2

pub unevict_for_reg-before-requires : goal.unevict_for_reg-before-requires
unevict_for_reg-before-requires c = let pre = c.requires in (pre.0, pre.1.known, fewer (omega arith) (omega arith) (omega arith) pre.4)

pub get_scratch_reg-found-requires : goal.get_scratch_reg-found-requires
get_scratch_reg-found-requires c =
    let pre = c.requires in
    let there = bank-there _ _ pre.0.function _ pre.2 in
    let bank = c.value_bank-b.ensures in
    (pre.0, rw bank there, pre.3, fewer (omega arith) (omega arith) (omega arith) ((c.unevict_for_reg-before.ensures []).fits 0 2 8 pre.4))

pub move_edits-moved-requires : goal.move_edits-moved-requires
move_edits-moved-requires c =
    let pre = c.requires in
    let there = bank-there _ _ pre.0.function _ pre.2 in
    let bank = c.value_bank-b.ensures in
    let got = c.get_scratch_reg-found.ensures in
    (record { checked = pre.0; bank = rw bank there; to-fits = pre.1; from-fits = got.place; value = omega (arith, pre.2, few-values _ _ pre.0.function) }, fewer (omega arith) (omega arith) (omega arith) (got.fits 0 1 6 ((c.unevict_for_reg-before.ensures []).fits 0 2 8 pre.4)))

pub push_remat-requires : goal.push_remat-requires
push_remat-requires c =
    let pre = c.requires in
    let got = c.get_scratch_reg-found.ensures in
    let left = c.move_edits-moved.ensures.fits 0 0 2 (got.fits 0 1 6 ((c.unevict_for_reg-before.ensures []).fits 0 2 8 pre.4)) in
    (omega (arith, left.few), record { to-small = got.place.small; from-small = omega arith; value-small = omega (arith, pre.2, few-values _ _ pre.0.function) })

pub release_place-released-requires : goal.release_place-released-requires
release_place-released-requires c =
    let pre = c.requires in
    let there = bank-there _ _ pre.0.function _ pre.2 in
    let bank = c.value_bank-b.ensures in
    let got = c.get_scratch_reg-found.ensures in
    let left = c.move_edits-moved.ensures.fits 0 0 2 (got.fits 0 1 6 ((c.unevict_for_reg-before.ensures []).fits 0 2 8 pre.4)) in
    (pre.0, rw bank there, got.place, fits_more left.most 1023 _ (omega (arith, left.own, left.few)) left.put)

pub make_available-marked-requires : goal.make_available-marked-requires
make_available-marked-requires c = c.requires.1.known

pub unevict_all-requires : goal.unevict_all-requires
unevict_all-requires c =
    let pre = c.requires in
    let left = c.move_edits-moved.ensures.fits 0 0 2 (c.get_scratch_reg-found.ensures.fits 0 1 6 ((c.unevict_for_reg-before.ensures []).fits 0 2 8 pre.4)) in
    let then = (c.release_place-released.ensures c.args.cache.now c.push_remat.new.e []).fits 0 0 0 (pushed (omega arith) (omega arith) (omega arith) c.push_remat.ensures.1 c.push_remat.ensures.2 left) in
    (pre.0, rw c.make_available-marked.ensures.0 then)

pub returns : goal.returns
returns c =
    let a = c.args in
    let pre = c.requires in
    let l = a.available.now in
    let before = c.unevict_for_reg-before in
    let found = c.get_scratch_reg-found in
    let moved = c.move_edits-moved in
    let e = c.push_remat.new.e in
    let released = c.release_place-released in
    let marked = c.make_available-marked in
    let l' = marked.new.available in
    let left = moved.ensures.fits 0 0 2 (found.ensures.fits 0 1 6 ((before.ensures l).fits 0 2 8 pre.4)) in
    let then = (released.ensures a.cache.now e l).fits 0 0 0 (pushed (omega arith) (omega arith) (omega arith) c.push_remat.ensures.1 c.push_remat.ensures.2 left) in
    through-remat _ _ _ _ _ _ _ _ _ before.result moved.result released.result marked.result _ _ (tables before.new.edits l before.new.slots) found.result (tables found.new.edits l found.new.slots) (tables moved.new.edits l moved.new.slots) e (tables e l released.new.slots) l' _ c.value_bank-b.ensures
    (before.ensures l) found.ensures moved.ensures c.push_remat.ensures.0 (released.ensures a.cache.now e l) (marked.ensures.1 a.f.now a.cache.now e released.new.slots) (c.unevict_all.ensures l')
    (omega (arith, ((c.unevict_all.ensures []).fits 0 0 0 (rw marked.ensures.0 then)).few))

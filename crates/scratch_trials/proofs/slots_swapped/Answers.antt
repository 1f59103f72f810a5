-- `scratch_trials::slots_swapped` meets its contract.
use native.Mathlib.Omega.{arith}
use Rattle.function.proofs.Laws.{known-value, few-values, bank-there}
use Rattle.scratch.proofs.Bounds.{fewer}
use Rattle.scratch.specs.Promises.{tables}
use mathlib.Core.Bool.{true}
use Rattle.search.specs.Search.{barred_by}
use Rattle.scratch.specs.Diversions.{Diverts, Undiverts}
use Rattle.scratch_trials.proofs.Laws.{one-needs, source_fits, scratch-fits, swapped}
use Rattle.scratch_trials.proofs.slots_swapped.Goals as goal

pub value_bank-b-requires : goal.value_bank-b-requires
value_bank-b-requires c = known-value _ _ c.requires.0.function _ c.requires.4

pub value_bank-c-requires : goal.value_bank-c-requires
value_bank-c-requires c = let pre = c.requires in known-value _ _ pre.0.function _ pre.3

pub divert-found-requires : goal.divert-found-requires
divert-found-requires c = let pre = c.requires in (pre.0, pre.4, omega (arith, pre.5), λ h. absurd (omega (arith, h, pre.5)), fewer (omega arith) (omega arith) (omega arith) pre.6)

pub do_move-first-requires : goal.do_move-first-requires
do_move-first-requires c =
    let pre = c.requires in
    let there = bank-there _ _ pre.0.function _ pre.4 in
    let bank = c.value_bank-b.ensures in
    let got = c.divert-found.ensures in
    (record { checked = pre.0; bank = rw bank there; to-fits = pre.1; from-fits = got.place; value = omega (arith, pre.4, few-values _ _ pre.0.function) }, fewer (omega arith) (omega arith) (omega arith) (got.fits 0 1 12 pre.6))

pub do_move-then-requires : goal.do_move-then-requires
do_move-then-requires c =
    let pre = c.requires in
    let there = bank-there _ _ pre.0.function _ pre.3 in
    let bank = c.value_bank-c.ensures in
    (record { checked = pre.0; bank = rw bank there; to-fits = pre.2; from-fits = pre.1; value = omega (arith, pre.3, few-values _ _ pre.0.function) }, fewer (omega arith) (omega arith) (omega arith) (c.do_move-first.ensures.fits 0 0 8 (c.divert-found.ensures.fits 0 1 12 pre.6)))

pub undivert-last-requires : goal.undivert-last-requires
undivert-last-requires c =
    let pre = c.requires in
    let a = c.args in
    let got = c.divert-found in
    let one = one-needs _ _ _ _ a.v.0 _ _ a.p.0 _ a.d.now _ _ _ _ _ pre.5 got.ensures in (
      pre.0,
      pre.4,
      omega (arith, one),
      omega (arith, one),
      scratch-fits _ _ _ _ a.v.0 _ _ a.p.0 _ a.d.now _ _ _ _ _ pre.5 got.ensures,
      source_fits _ _ _ _ a.v.0 _ _ a.p.0 _ a.d.now _ _ _ _ _ pre.5 got.ensures pre.2,
      fewer (omega arith) (omega arith) (omega arith) (c.do_move-then.ensures.fits 1 1 4 (c.do_move-first.ensures.fits 0 0 8 (got.ensures.fits 0 1 12 pre.6))),
    )

pub unevict_all-requires : goal.unevict_all-requires
unevict_all-requires c = let pre = c.requires in (pre.0, fewer (omega arith) (omega arith) (omega arith) (c.undivert-last.ensures.fits 0 0 0 (fewer (omega arith) (omega arith) (omega arith) (c.do_move-then.ensures.fits 1 1 4 (c.do_move-first.ensures.fits 0 0 8 (c.divert-found.ensures.fits 0 1 12 pre.6))))))

pub returns : goal.returns
returns c =
    let a = c.args in
    let pre = c.requires in
    let got = c.divert-found in
    let first = c.do_move-first in
    let then = c.do_move-then in
    let last = c.undivert-last in
    let l = last.new.available in
    let left = last.ensures.fits 0 0 0 (fewer (omega arith) (omega arith) (omega arith) (then.ensures.fits 1 1 4 (first.ensures.fits 0 0 8 (got.ensures.fits 0 1 12 pre.6)))) in
    let bank = c.value_bank-b in
    let old = tables a.edits.now a.available.now a.slots.now in
    let w₁ = tables got.new.edits got.new.available got.new.slots in
    let w₂ = tables first.new.edits first.new.available first.new.slots in
    let w₃ = tables then.new.edits then.new.available then.new.slots in
    let w₄ = tables last.new.edits l last.new.slots in
    let diverts : Diverts a.t.now a.f.now a.cache.now bank.result.0 (barred_by true a.sources.now) 1 a.q.0 a.w.0 a.d.now a.k old got.new.d got.result w₁ = rw bank.ensures got.ensures in
    let undiverts : Undiverts a.t.now a.f.now a.cache.now bank.result.0 a.w.0 got.new.d then.result w₃ last.new.d last.result w₄ = rw bank.ensures last.ensures in record {
      ends = swapped _ _ _ bank.result.0 a.v.0 a.w.0 _ a.p.0 a.q.0 a.d.now got.new.d a.k old got.result w₁ pre.5 diverts _ last.new.d first.result then.result last.result _ w₂ w₃ w₄ _
          bank.ensures c.value_bank-c.ensures first.ensures then.ensures undiverts (c.unevict_all.ensures l) (omega (arith, ((c.unevict_all.ensures l).fits 0 0 0 (fewer (omega arith) (omega arith) (omega arith) left)).few));
      anything = tt;
    }

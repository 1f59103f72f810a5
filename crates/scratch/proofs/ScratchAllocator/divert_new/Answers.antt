-- `scratch::ScratchAllocator::divert_new` meets its contract.
use native.Mathlib.Omega.{arith}
use Rattle.function.proofs.Laws.{known-value, few-values, bank-there}
use Rattle.reginfo.proofs.Accepted.{known-bank, top-fits}
use Rattle.scratch.proofs.Diversions.{diverts-new}
use Rattle.scratch.specs.Promises.{tables}
use Rattle.scratch.proofs.ScratchAllocator.divert_new.Goals as goal

pub value_bank-b-requires : goal.value_bank-b-requires
value_bank-b-requires c = known-value _ _ c.requires.0.function _ c.requires.1

pub top_level_class-c-requires : goal.top_level_class-c-requires
top_level_class-c-requires c = let pre = c.requires in known-bank _ pre.0.target _ (rw c.value_bank-b.ensures (bank-there _ _ pre.0.function _ pre.1))

pub get_scratch_reg-found-requires : goal.get_scratch_reg-found-requires
get_scratch_reg-found-requires c =
    let pre = c.requires in
    let there = bank-there _ _ pre.0.function _ pre.1 in
    let bank = c.value_bank-b.ensures in
    (pre.0, rw bank there, rw c.top_level_class-c.ensures (top-fits _ pre.0.target _ (rw bank there)), pre.3)

pub note-requires : goal.note-requires
note-requires c = let pre = c.requires in omega (arith, pre.1, few-values _ _ pre.0.function)

pub make_unavailable-marked-requires : goal.make_unavailable-marked-requires
make_unavailable-marked-requires c = c.get_scratch_reg-found.ensures.place.known

pub returns : goal.returns
returns c =
    let a = c.args in
    let bank = c.value_bank-b.ensures in
    let found = c.get_scratch_reg-found in
    let e = found.new.edits in
    let s = found.new.slots in
    diverts-new _ _ _ _ _ a.d.now _ _ _ _ _ c.make_unavailable-marked.result _ (tables e a.available.now s) found.result _ c.requires.2
    (rw (← bank, ← c.top_level_class-c.ensures) found.ensures) c.note.ensures
    c.make_unavailable-marked.ensures.0 (c.make_unavailable-marked.ensures.1 a.f.now a.cache.now e s)

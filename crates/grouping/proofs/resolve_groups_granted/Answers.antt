-- `resolve_groups_granted` meets its contract: refused as a whole, by a group, or all handed over.
use mathlib.Core.Path.{refl}
use native.Mathlib.Omega.{arith}
use Rattle.grouping.proofs.Ending.{begun_ok, groups-refused, passed, part_out, can-hand-over, all-given}
use Rattle.grouping.proofs.resolve_groups_granted.Goals as goal

pub whole_refusal-requires : goal.whole_refusal-requires
whole_refusal-requires c =
    let pre = c.requires in
    (pre.0, pre.2)

pub returns-in-Refused : goal.returns-in-Refused
returns-in-Refused c =
    let args = c.args in
    let pre = c.requires in
    record { groups_granted = groups-refused args.t.now args.f.now args.free.now args.numbers.now args.g pre.0 args.cache.now args.list.now _ (rw c.in-Refused.is at c.whole_refusal.ensures.0); anything = (tt, tt, tt, tt, tt, tt, tt, tt, tt); anything_2 = (tt, tt, tt, tt, tt, tt) }

pub lay-requires : goal.lay-requires
lay-requires c =
    let whole-refusal = c.whole_refusal in
    (rw c.in_default.is at whole-refusal.ensures.0).known refl

pub begin-requires : goal.begin-requires
begin-requires c =
    let pre = c.requires in
    pre.1.fits

pub resolve_parts-requires : goal.resolve_parts-requires
resolve_parts-requires c =
    let pre = c.requires in
    let whole-refusal = c.whole_refusal in
    let lay = c.lay in
    let args = c.args in
    let begin = c.begin in
    (pre.0, (rw c.in_default.is at whole-refusal.ensures.0).known refl, lay.ensures.0, pre.2, begun_ok args.t.now args.f.now args.free.now args.numbers.now args.g pre.0 args.cache.now args.list.now _ pre.1 begin.ensures.0 begin.ensures.1, passed args.t.now args.f.now args.free.now args.numbers.now args.g pre.0 args.cache.now args.list.now (rw c.in_default.is at whole-refusal.ensures.0), c.told-joined)

pub hand_over-requires : goal.hand_over-requires
hand_over-requires c =
    let args = c.args in
    let pre = c.requires in
    let whole-refusal = c.whole_refusal in
    let begin = c.begin in
    let resolve-parts = c.resolve_parts in
    let h = can-hand-over args.t.now args.f.now args.free.now args.numbers.now args.g pre.0 args.cache.now args.list.now (rw c.in_default.is at whole-refusal.ensures.0) _ _ _ begin.ensures.0 _ _ (rw c.in-Edits.is at resolve-parts.ensures.parts_give) in (omega (arith, h.0, c.resolve_parts.auto.joined, c.told-joined), h.1, h.2)

pub returns-in-Refused-resolve_parts : goal.returns-in-Refused-resolve_parts
returns-in-Refused-resolve_parts c =
    let args = c.args in
    let pre = c.requires in
    let whole-refusal = c.whole_refusal in
    let begin = c.begin in
    record { groups_granted = part_out args.t.now args.f.now args.free.now args.numbers.now args.g pre.0 args.cache.now args.list.now (rw c.in_default.is at whole-refusal.ensures.0) _ _ _ begin.ensures.0 _ (rw c.in-Refused-resolve_parts.is at c.resolve_parts.ensures.parts_give); anything = (tt, tt, tt, tt, tt, tt, tt, tt, tt); anything_2 = (tt, tt, tt, tt, tt, tt) }

pub returns-in-Edits : goal.returns-in-Edits
returns-in-Edits c =
    let args = c.args in
    let pre = c.requires in
    let whole-refusal = c.whole_refusal in
    let begin = c.begin in
    let resolve-parts = c.resolve_parts in
    record { groups_granted = all-given args.t.now args.f.now args.free.now args.numbers.now args.g pre.0 args.cache.now args.list.now (rw c.in_default.is at whole-refusal.ensures.0) _ _ _ begin.ensures.0 _ _ (rw c.in-Edits.is at resolve-parts.ensures.parts_give) _ _ c.hand_over.ensures; anything = (tt, tt, tt, tt, tt, tt, tt, tt, tt); anything_2 = (tt, tt, tt, tt, tt, tt) }

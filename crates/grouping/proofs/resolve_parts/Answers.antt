use mathlib.Core.Path.{refl, sym, ◌∙◌, ap}
use native.Mathlib.Omega.{arith}
use Prim.Native.Nat.{ℕ, ◌+◌, ◌-◌}
use lib.ListN.{length, take, drop}
use Rattle.entity.proofs.Laws.{greatest}
use borrow.Author.Tests.{not-true, not-false, eqb-true}
use Rattle.reginfo.specs.Table.{reg_info_of}
use Rattle.slots.specs.Stacks.{cache_of}
use Rattle.groups.specs.Given.{count_of}
use Rattle.groups.proofs.Entries.{how-many}
use Rattle.grouping.proofs.Givens.{given, is-given}
use Rattle.grouping.proofs.Laying.{label_at}
use Rattle.grouping.proofs.Going.{part_length, back_is, back-length, most, going_start, count_most, going-skip, going-refused, going_more, going_end, first-here}
use Rattle.grouping.proofs.resolve_parts.Goals as goal

pub loop-i-init : goal.loop-i-init
loop-i-init c =
    let pre = c.requires in
    let args = c.args in
    (omega arith, refl, pre.6, λ p num. going_start args.limit args.t.now args.f.now pre.0 pre.4.limit p (pre.5 p num) (count_of args.numbers.now) args.work.now args.joined.now (ap length num.are ∙ how-many (reg_info_of args.t.now) args.numbers.now pre.1) pre.4)

pub is_first-requires : goal.is_first-requires
is_first-requires c = let l = c.loop-i in omega (arith, l.invariant.1, c.loop-i-test.true, c.requires.1.few)

pub loop-i-preserved-then-not-is_first : goal.loop-i-preserved-then-not-is_first
loop-i-preserved-then-not-is_first c =
    let loop-test = c.loop-i-test in
    let args = c.args in
    let pre = c.requires in
    let l = c.loop-i in (omega (arith, loop-test.true), l.invariant.1, l.invariant.2, λ p num. going-skip args.limit args.t.now args.f.now pre.0 pre.4.limit p (pre.5 p num) (cache_of args.work.now) (count_of args.numbers.now) l.i l.work l.joined l.count l.met (omega (arith, l.invariant.1, loop-test.true)) (l.invariant.3 p num) (first-here args.t.now args.free.now args.numbers.now args.labels.now pre.2.labelled l.i (omega (arith, l.invariant.1, loop-test.true)) p num ∙ sym c.is_first.ensures ∙ not-true c.is_first.result c.if-not-is_first.true-raw))

pub offset_bounds-joined-count : goal.offset_bounds-joined-count
offset_bounds-joined-count c =
    let args = c.args in
    let pre = c.requires in
    let l = c.loop-i in omega (arith, l.invariant.2, count_most args.limit args.t.now args.f.now pre.0 pre.4.limit (given args.free.now args.numbers.now) (pre.5 (given args.free.now args.numbers.now) (is-given args.free.now args.numbers.now)) (cache_of args.work.now) (count_of args.numbers.now) l.i l.work l.joined l.count l.met (omega (arith, l.invariant.1, c.loop-i-test.true)) (l.invariant.3 (given args.free.now args.numbers.now) (is-given args.free.now args.numbers.now)))

pub slice_bounds-resolve_part-count : goal.slice_bounds-resolve_part-count
slice_bounds-resolve_part-count c =
    let args = c.args in
    let pre = c.requires in
    let l = c.loop-i in omega (arith, l.invariant.2, count_most args.limit args.t.now args.f.now pre.0 pre.4.limit (given args.free.now args.numbers.now) (pre.5 (given args.free.now args.numbers.now) (is-given args.free.now args.numbers.now)) (cache_of args.work.now) (count_of args.numbers.now) l.i l.work l.joined l.count l.met (omega (arith, l.invariant.1, c.loop-i-test.true)) (l.invariant.3 (given args.free.now args.numbers.now) (is-given args.free.now args.numbers.now)))

pub slice_bounds-resolve_part-start : goal.slice_bounds-resolve_part-start
slice_bounds-resolve_part-start c =
    let args = c.args in
    let pre = c.requires in
    let l = c.loop-i in omega (arith, l.invariant.2, count_most args.limit args.t.now args.f.now pre.0 pre.4.limit (given args.free.now args.numbers.now) (pre.5 (given args.free.now args.numbers.now) (is-given args.free.now args.numbers.now)) (cache_of args.work.now) (count_of args.numbers.now) l.i l.work l.joined l.count l.met (omega (arith, l.invariant.1, c.loop-i-test.true)) (l.invariant.3 (given args.free.now args.numbers.now) (is-given args.free.now args.numbers.now)))

pub resolve_part-requires : goal.resolve_part-requires
resolve_part-requires c =
    let loop = c.loop-i in
    let pre = c.requires in
    let loop-test = c.loop-i-test in
    let args = c.args in
    let is-first = c.is_first in
    let if1 = c.if-not-is_first in
    let l = loop in (pre.0, pre.1, record { linked = pre.2.linked; low = (omega (arith, l.invariant.1, loop-test.true)); first = sym (label_at (reg_info_of args.t.now) args.numbers.now args.labels.now pre.2.labelled l.i (omega (arith, l.invariant.1, loop-test.true))) ∙ eqb-true _ l.i (sym is-first.ensures ∙ not-false is-first.result if1.false-raw) }, pre.2.shared, pre.3, (l.invariant.3 (given args.free.now args.numbers.now) (is-given args.free.now args.numbers.now)).ok)

pub shape_of-joined-in-Refused : goal.shape_of-joined-in-Refused
shape_of-joined-in-Refused c =
    let loop = c.loop-i in
    let resolve-part = c.resolve_part in
    let args = c.args in
    let pre = c.requires in
    let loop-test = c.loop-i-test in
    let l = loop in back-length l.joined resolve-part.new.list l.count (omega (arith, l.invariant.2, count_most args.limit args.t.now args.f.now pre.0 pre.4.limit (given args.free.now args.numbers.now) (pre.5 (given args.free.now args.numbers.now) (is-given args.free.now args.numbers.now)) (cache_of args.work.now) (count_of args.numbers.now) l.i l.work l.joined l.count l.met (omega (arith, l.invariant.1, loop-test.true)) (l.invariant.3 (given args.free.now args.numbers.now) (is-given args.free.now args.numbers.now)))) resolve-part.auto.list ∙ l.invariant.2 ∙ sym pre.6

pub returns-in-Refused : goal.returns-in-Refused
returns-in-Refused c =
    let loop = c.loop-i in
    let args = c.args in
    let pre = c.requires in
    let loop-test = c.loop-i-test in
    let is-first = c.is_first in
    let if1 = c.if-not-is_first in
    let resolve-part = c.resolve_part in
    let l = loop in record { parts_give = λ p num. rw (going-refused args.limit args.t.now args.f.now pre.0 pre.4.limit p (pre.5 p num) (cache_of args.work.now) (count_of args.numbers.now) l.i l.work l.joined l.count l.met (omega (arith, l.invariant.1, loop-test.true)) (l.invariant.3 p num) (first-here args.t.now args.free.now args.numbers.now args.labels.now pre.2.labelled l.i (omega (arith, l.invariant.1, loop-test.true)) p num ∙ sym is-first.ensures ∙ not-false is-first.result if1.false-raw) (length (take (length l.joined - l.count) (drop l.count l.joined))) (part_length l.joined l.count ∙ ap (λ (z : ℕ). z - l.count) l.invariant.2) (take (length l.joined - l.count) (drop l.count l.joined)) resolve-part.new.list _ l.invariant.2 _ (rw c.in-Refused.is at (resolve-part.ensures.part_gives p num))) refl; anything = (tt, tt, tt, tt, tt, tt, tt, tt, tt) }

pub overflow_add-count : goal.overflow_add-count
overflow_add-count c =
    let loop = c.loop-i in
    let args = c.args in
    let pre = c.requires in
    let loop-test = c.loop-i-test in
    let is-first = c.is_first in
    let if1 = c.if-not-is_first in
    let resolve-part = c.resolve_part in
    let l = loop in let g = going_more args.limit args.t.now args.f.now pre.0 pre.4.limit (given args.free.now args.numbers.now) (pre.5 (given args.free.now args.numbers.now) (is-given args.free.now args.numbers.now)) (cache_of args.work.now) (count_of args.numbers.now) l.i l.work l.joined l.count l.met (omega (arith, l.invariant.1, loop-test.true)) (l.invariant.3 (given args.free.now args.numbers.now) (is-given args.free.now args.numbers.now)) (first-here args.t.now args.free.now args.numbers.now args.labels.now pre.2.labelled l.i (omega (arith, l.invariant.1, loop-test.true)) (given args.free.now args.numbers.now) (is-given args.free.now args.numbers.now) ∙ sym is-first.ensures ∙ not-false is-first.result if1.false-raw) (length (take (length l.joined - l.count) (drop l.count l.joined))) (part_length l.joined l.count ∙ ap (λ (z : ℕ). z - l.count) l.invariant.2) (take (length l.joined - l.count) (drop l.count l.joined)) resolve-part.new.list _ l.invariant.2 _ _ _ (back_is l.joined resolve-part.new.list l.count) (rw c.in-Edits.is at (resolve-part.ensures.part_gives (given args.free.now args.numbers.now) (is-given args.free.now args.numbers.now))) in omega (arith, g.few (count_of args.numbers.now - (l.i + 1)) (omega (arith, l.invariant.1, loop-test.true)), most args.limit args.t.now args.f.now pre.0 pre.4.limit (given args.free.now args.numbers.now) (pre.5 (given args.free.now args.numbers.now) (is-given args.free.now args.numbers.now)))

pub loop-i-preserved : goal.loop-i-preserved
loop-i-preserved c =
    let loop = c.loop-i in
    let loop-test = c.loop-i-test in
    let resolve-part = c.resolve_part in
    let args = c.args in
    let pre = c.requires in
    let is-first = c.is_first in
    let if1 = c.if-not-is_first in
    let l = loop in (omega (arith, loop-test.true), l.invariant.1, back-length l.joined resolve-part.new.list l.count (omega (arith, l.invariant.2, count_most args.limit args.t.now args.f.now pre.0 pre.4.limit (given args.free.now args.numbers.now) (pre.5 (given args.free.now args.numbers.now) (is-given args.free.now args.numbers.now)) (cache_of args.work.now) (count_of args.numbers.now) l.i l.work l.joined l.count l.met (omega (arith, l.invariant.1, loop-test.true)) (l.invariant.3 (given args.free.now args.numbers.now) (is-given args.free.now args.numbers.now)))) resolve-part.auto.list ∙ l.invariant.2, λ p num. rw (c.max-met.ensures ∙ greatest _ _) (going_more args.limit args.t.now args.f.now pre.0 pre.4.limit p (pre.5 p num) (cache_of args.work.now) (count_of args.numbers.now) l.i l.work l.joined l.count l.met (omega (arith, l.invariant.1, loop-test.true)) (l.invariant.3 p num) (first-here args.t.now args.free.now args.numbers.now args.labels.now pre.2.labelled l.i (omega (arith, l.invariant.1, loop-test.true)) p num ∙ sym is-first.ensures ∙ not-false is-first.result if1.false-raw) (length (take (length l.joined - l.count) (drop l.count l.joined))) (part_length l.joined l.count ∙ ap (λ (z : ℕ). z - l.count) l.invariant.2) (take (length l.joined - l.count) (drop l.count l.joined)) resolve-part.new.list _ l.invariant.2 _ _ _ (back_is l.joined resolve-part.new.list l.count) (rw c.in-Edits.is at (resolve-part.ensures.part_gives p num))))

pub shape_of-joined : goal.shape_of-joined
shape_of-joined c = let l = c.loop-i in l.invariant.2 ∙ sym c.requires.6

pub returns : goal.returns
returns c =
    let args = c.args in
    let pre = c.requires in
    let l = c.loop-i in record { parts_give = λ p num. going_end args.limit args.t.now args.f.now pre.0 pre.4.limit p (pre.5 p num) (cache_of args.work.now) (count_of args.numbers.now) l.i l.work l.joined l.count l.met (omega (arith, l.invariant.0, l.invariant.1, c.loop-i-test.false)) (l.invariant.3 p num); anything = (tt, tt, tt, tt, tt, tt, tt, tt, tt) }

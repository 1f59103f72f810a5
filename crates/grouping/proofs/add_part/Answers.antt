use mathlib.Core.Path.{◌∙◌}
use native.Mathlib.Omega.{arith}
use Prim.Native.Nat.{◌+◌}
use Rattle.reginfo.specs.Table.{reg_info_of}
use Rattle.rules.specs.Patch.{Entry}
use Rattle.group_rules.specs.Groups.{near}
use Rattle.group_rules.specs.Refusals.{no_entry}
use Rattle.group_rules.proofs.Labelled.{labelled}
use Rattle.group_rules.proofs.Parts.{near-comm}
use Rattle.parallel_moves.specs.Given.{entries_of}
use Rattle.groups.specs.Given.{count_of, labels_in}
use Rattle.groups.proofs.Entries.{how-many, inside, at}
use Rattle.groups.proofs.Chain.{rest, at_next, at-end, at_first}
use Rattle.grouping.proofs.Adding.{entry-is, owned, adding-start, adding-more, adding-stop, part-stopped, part-added}
use Rattle.grouping.proofs.add_part.Goals as goal

pub loop-k-init : goal.loop-k-init
loop-k-init c =
    let args = c.args in
    let pre = c.requires in
    ((owned (reg_info_of args.t.now) args.numbers.now args.first), at_first (labels_in (reg_info_of args.t.now) args.numbers.now) (entries_of args.numbers.now) (count_of args.numbers.now) args.first ((labelled Entry (near (reg_info_of args.t.now)) (near-comm (reg_info_of args.t.now)) no_entry (entries_of args.numbers.now)).each ∙ how-many (reg_info_of args.t.now) args.numbers.now pre.1) (how-many (reg_info_of args.t.now) args.numbers.now pre.1) pre.1.few args.next.now pre.2.linked (λ i h. (labelled Entry (near (reg_info_of args.t.now)) (near-comm (reg_info_of args.t.now)) no_entry (entries_of args.numbers.now)).first i (omega (arith, how-many (reg_info_of args.t.now) args.numbers.now pre.1))) pre.2.low pre.2.first, adding-start args.t.now args.f.now (owned (reg_info_of args.t.now) args.numbers.now args.first) _ _ (c.new_parallel_move.ensures.1 _ _) c.new_parallel_move.ensures.0)

pub overflow_mul-k : goal.overflow_mul-k
overflow_mul-k c = omega (arith, c.loop-k-test.true)

pub add_entry-requires : goal.add_entry-requires
add_entry-requires c =
    let args = c.args in
    let pre = c.requires in
    let l = c.loop-k in let h = at_next (labels_in (reg_info_of args.t.now) args.numbers.now) (entries_of args.numbers.now) (count_of args.numbers.now) args.first ((labelled Entry (near (reg_info_of args.t.now)) (near-comm (reg_info_of args.t.now)) no_entry (entries_of args.numbers.now)).each ∙ how-many (reg_info_of args.t.now) args.numbers.now pre.1) (how-many (reg_info_of args.t.now) args.numbers.now pre.1) pre.1.few args.next.now pre.2.linked l.k l.invariant.0 c.loop-k-test.true l.invariant.1 in (pre.0, l.invariant.2.ok, inside (reg_info_of args.t.now) args.numbers.now pre.1 l.k h.0)

pub returns-in-Refused : goal.returns-in-Refused
returns-in-Refused c =
    let loop = c.loop-k in
    let args = c.args in
    let pre = c.requires in
    let loop-test = c.loop-k-test in
    let l = loop in let h = at_next (labels_in (reg_info_of args.t.now) args.numbers.now) (entries_of args.numbers.now) (count_of args.numbers.now) args.first ((labelled Entry (near (reg_info_of args.t.now)) (near-comm (reg_info_of args.t.now)) no_entry (entries_of args.numbers.now)).each ∙ how-many (reg_info_of args.t.now) args.numbers.now pre.1) (how-many (reg_info_of args.t.now) args.numbers.now pre.1) pre.1.few args.next.now pre.2.linked l.k l.invariant.0 loop-test.true l.invariant.1 in part-stopped _ _ _ _ _ _ _ (adding-stop args.t.now args.f.now (owned (reg_info_of args.t.now) args.numbers.now args.first) _ _ _ _ _ _ (rw (h.1, at (reg_info_of args.t.now) args.numbers.now pre.1 l.k h.0) at l.invariant.2) _ (rw c.in-Refused.is at (entry-is _ _ _ _ _ _ args.numbers.now l.k _ c.add_entry.ensures)))

pub bounds-next-k : goal.bounds-next-k
bounds-next-k c = omega (arith, c.loop-k-test.true)

pub loop-k-smaller : goal.loop-k-smaller
loop-k-smaller c =
    let loop = c.loop-k in
    let args = c.args in
    let pre = c.requires in
    let loop-test = c.loop-k-test in
    let l = loop in let h = at_next (labels_in (reg_info_of args.t.now) args.numbers.now) (entries_of args.numbers.now) (count_of args.numbers.now) args.first ((labelled Entry (near (reg_info_of args.t.now)) (near-comm (reg_info_of args.t.now)) no_entry (entries_of args.numbers.now)).each ∙ how-many (reg_info_of args.t.now) args.numbers.now pre.1) (how-many (reg_info_of args.t.now) args.numbers.now pre.1) pre.1.few args.next.now pre.2.linked l.k l.invariant.0 loop-test.true l.invariant.1 in omega (arith, h.3, c.from-k.ensures)

pub loop-k-preserved : goal.loop-k-preserved
loop-k-preserved c =
    let loop = c.loop-k in
    let args = c.args in
    let pre = c.requires in
    let loop-test = c.loop-k-test in
    let l = loop in let h = at_next (labels_in (reg_info_of args.t.now) args.numbers.now) (entries_of args.numbers.now) (count_of args.numbers.now) args.first ((labelled Entry (near (reg_info_of args.t.now)) (near-comm (reg_info_of args.t.now)) no_entry (entries_of args.numbers.now)).each ∙ how-many (reg_info_of args.t.now) args.numbers.now pre.1) (how-many (reg_info_of args.t.now) args.numbers.now pre.1) pre.1.few args.next.now pre.2.linked l.k l.invariant.0 loop-test.true l.invariant.1 in (rest (labels_in (reg_info_of args.t.now) args.numbers.now) (entries_of args.numbers.now) (count_of args.numbers.now) args.first (l.k + 1), rw c.from-k.ensures h.2, adding-more args.t.now args.f.now (owned (reg_info_of args.t.now) args.numbers.now args.first) _ _ _ _ _ _ (rw (h.1, at (reg_info_of args.t.now) args.numbers.now pre.1 l.k h.0) at l.invariant.2) (rw c.in_default.is at (entry-is _ _ _ _ _ _ args.numbers.now l.k _ c.add_entry.ensures)))

pub returns : goal.returns
returns c =
    let args = c.args in
    let pre = c.requires in
    let l = c.loop-k in part-added _ _ _ _ _ _ (rw (at-end (labels_in (reg_info_of args.t.now) args.numbers.now) (entries_of args.numbers.now) (count_of args.numbers.now) args.first ((labelled Entry (near (reg_info_of args.t.now)) (near-comm (reg_info_of args.t.now)) no_entry (entries_of args.numbers.now)).each ∙ how-many (reg_info_of args.t.now) args.numbers.now pre.1) (how-many (reg_info_of args.t.now) args.numbers.now pre.1) pre.1.few args.next.now pre.2.linked l.k l.invariant.0 c.loop-k-test.false l.invariant.1) at l.invariant.2)

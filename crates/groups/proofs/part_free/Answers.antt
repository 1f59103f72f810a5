use mathlib.Core.Path.{refl, ◌∙◌}
use native.Mathlib.Omega.{arith}
use Prim.Native.Nat.{◌+◌}
use lib.Dec.{eqb}
use Rattle.reginfo.specs.Table.{reg_info_of}
use Rattle.rules.specs.Patch.{Entry}
use Rattle.group_rules.specs.Groups.{near, chosen}
use Rattle.group_rules.specs.Refusals.{no_entry}
use Rattle.group_rules.proofs.Labelled.{labelled}
use Rattle.group_rules.proofs.Parts.{near-comm}
use Rattle.parallel_moves.specs.Given.{entries_of}
use Rattle.groups.specs.Given.{count_of, labels_in}
use Rattle.groups.proofs.Entries.{how-many, inside, at}
use Rattle.groups.proofs.Chain.{rest, at_next, at-end, at_first, free_more, free-end}
use Rattle.groups.proofs.part_free.Goals as goal

pub loop-k-init : goal.loop-k-init
loop-k-init c =
    let args = c.args in
    let pre = c.requires in
    ((chosen (λ x. eqb x args.g) (labels_in (reg_info_of args.t.now) args.numbers.now) (entries_of args.numbers.now)), at_first (labels_in (reg_info_of args.t.now) args.numbers.now) (entries_of args.numbers.now) (count_of args.numbers.now) args.g ((labelled Entry (near (reg_info_of args.t.now)) (near-comm (reg_info_of args.t.now)) no_entry (entries_of args.numbers.now)).each ∙ how-many (reg_info_of args.t.now) args.numbers.now pre.0) (how-many (reg_info_of args.t.now) args.numbers.now pre.0) pre.0.few args.next.now pre.2.linked (λ i h. (labelled Entry (near (reg_info_of args.t.now)) (near-comm (reg_info_of args.t.now)) no_entry (entries_of args.numbers.now)).first i (omega (arith, how-many (reg_info_of args.t.now) args.numbers.now pre.0))) pre.2.low pre.2.first, rw c.copy_from.ensures (λ u. refl))

pub reopen_source-requires : goal.reopen_source-requires
reopen_source-requires c =
    let args = c.args in
    let pre = c.requires in
    let l = c.loop-k in let h = at_next (labels_in (reg_info_of args.t.now) args.numbers.now) (entries_of args.numbers.now) (count_of args.numbers.now) args.g ((labelled Entry (near (reg_info_of args.t.now)) (near-comm (reg_info_of args.t.now)) no_entry (entries_of args.numbers.now)).each ∙ how-many (reg_info_of args.t.now) args.numbers.now pre.0) (how-many (reg_info_of args.t.now) args.numbers.now pre.0) pre.0.few args.next.now pre.2.linked l.k l.invariant.0 c.loop-k-test.true l.invariant.1 in (pre.0.each l.k h.0, inside (reg_info_of args.t.now) args.numbers.now pre.0 l.k h.0, c.loop-k-test.true)

pub bounds-next-k : goal.bounds-next-k
bounds-next-k c = omega (arith, c.loop-k-test.true)

pub loop-k-smaller : goal.loop-k-smaller
loop-k-smaller c =
    let args = c.args in
    let pre = c.requires in
    let l = c.loop-k in let h = at_next (labels_in (reg_info_of args.t.now) args.numbers.now) (entries_of args.numbers.now) (count_of args.numbers.now) args.g ((labelled Entry (near (reg_info_of args.t.now)) (near-comm (reg_info_of args.t.now)) no_entry (entries_of args.numbers.now)).each ∙ how-many (reg_info_of args.t.now) args.numbers.now pre.0) (how-many (reg_info_of args.t.now) args.numbers.now pre.0) pre.0.few args.next.now pre.2.linked l.k l.invariant.0 c.loop-k-test.true l.invariant.1 in omega (arith, h.3, c.from-k.ensures)

pub loop-k-preserved : goal.loop-k-preserved
loop-k-preserved c =
    let args = c.args in
    let pre = c.requires in
    let l = c.loop-k in let h = at_next (labels_in (reg_info_of args.t.now) args.numbers.now) (entries_of args.numbers.now) (count_of args.numbers.now) args.g ((labelled Entry (near (reg_info_of args.t.now)) (near-comm (reg_info_of args.t.now)) no_entry (entries_of args.numbers.now)).each ∙ how-many (reg_info_of args.t.now) args.numbers.now pre.0) (how-many (reg_info_of args.t.now) args.numbers.now pre.0) pre.0.few args.next.now pre.2.linked l.k l.invariant.0 c.loop-k-test.true l.invariant.1 in (rest (labels_in (reg_info_of args.t.now) args.numbers.now) (entries_of args.numbers.now) (count_of args.numbers.now) args.g (l.k + 1), rw c.from-k.ensures h.2, free_more (reg_info_of args.t.now) (chosen (λ x. eqb x args.g) (labels_in (reg_info_of args.t.now) args.numbers.now) (entries_of args.numbers.now)) args.free.now args.common.now l.out _ _ _ c.reopen_source.ensures (rw (h.1, at (reg_info_of args.t.now) args.numbers.now pre.0 l.k h.0) at l.invariant.2))

pub returns : goal.returns
returns c =
    let args = c.args in
    let pre = c.requires in
    let l = c.loop-k in free-end (reg_info_of args.t.now) args.numbers.now args.free.now args.common.now l.out args.g pre.1 (rw (at-end (labels_in (reg_info_of args.t.now) args.numbers.now) (entries_of args.numbers.now) (count_of args.numbers.now) args.g ((labelled Entry (near (reg_info_of args.t.now)) (near-comm (reg_info_of args.t.now)) no_entry (entries_of args.numbers.now)).each ∙ how-many (reg_info_of args.t.now) args.numbers.now pre.0) (how-many (reg_info_of args.t.now) args.numbers.now pre.0) pre.0.few args.next.now pre.2.linked l.k l.invariant.0 c.loop-k-test.false l.invariant.1) at l.invariant.2)

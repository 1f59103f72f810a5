use mathlib.Core.Path.{refl}
use native.Mathlib.Omega.{arith}
use lib.ListN.{drop_of_length-le}
use Rattle.reginfo.specs.Table.{reg_info_of}
use Rattle.parallel_moves.specs.Given.{entries_of}
use Rattle.groups.proofs.Entries.{how-many, inside, entries-step}
use Rattle.groups.proofs.Chain.{common-more, common-end}
use Rattle.groups.proofs.common_free.Goals as goal

pub loop-k-init : goal.loop-k-init
loop-k-init c = (omega arith, refl, rw c.copy_from.ensures (λ u. refl))

pub close_source-requires : goal.close_source-requires
close_source-requires c =
    let pre = c.requires in
    let args = c.args in
    let l = c.loop-k in let h = c.loop-k-test.true in (pre.each l.k (omega (arith, l.invariant.1, h)), inside (reg_info_of args.t.now) args.numbers.now (pre) l.k (omega (arith, l.invariant.1, h)), omega (arith, l.invariant.1, h, pre.few))

pub loop-k-preserved : goal.loop-k-preserved
loop-k-preserved c =
    let args = c.args in
    let pre = c.requires in
    let l = c.loop-k in let h = c.loop-k-test.true in (omega (arith, h), l.invariant.1, common-more (reg_info_of args.t.now) (entries_of args.numbers.now) args.free.now l.out _ _ _ c.close_source.ensures (rw (entries-step (reg_info_of args.t.now) args.numbers.now (pre) l.k (omega (arith, l.invariant.1, h))) at l.invariant.2))

pub returns : goal.returns
returns c =
    let args = c.args in
    let l = c.loop-k in common-end (reg_info_of args.t.now) args.numbers.now args.free.now l.out (rw (drop_of_length-le (entries_of args.numbers.now) {i = l.k} (omega (arith, how-many (reg_info_of args.t.now) args.numbers.now c.requires, l.invariant.1, c.loop-k-test.false))) at l.invariant.2)

use mathlib.Core.Path.{◌≡◌, refl}
use native.Mathlib.Omega.{arith}
use lib.ListN.{length}
use Rattle.reginfo.specs.Table.{reg_info_of}
use Rattle.parallel_moves.specs.Given.{entries_of}
use Rattle.groups.proofs.Entries.{how-many, inside, at, units-low}
use Rattle.groups.proofs.Tables.{filled}
use Rattle.groups.proofs.Noting.{none-noted, all-labelled}
use Rattle.groups.proofs.label.Goals as goal

pub loop-k-init : goal.loop-k-init
loop-k-init c = (omega arith, refl, none-noted _ (entries_of c.args.numbers.now) _ _ (λ u h. let e = filled 4608 255 u h in omega arith))

pub note_entry-requires : goal.note_entry-requires
note_entry-requires c =
    let pre = c.requires in
    let args = c.args in
    let l = c.loop-k in let h = c.loop-k-test.true in (pre.each l.k (omega (arith, l.invariant.1, h)), inside (reg_info_of args.t.now) args.numbers.now (pre) l.k (omega (arith, l.invariant.1, h)), omega (arith, l.invariant.1, h, pre.few))

pub loop-k-preserved : goal.loop-k-preserved
loop-k-preserved c =
    let args = c.args in
    let pre = c.requires in
    let l = c.loop-k in let h = c.loop-k-test.true in (omega (arith, h), l.invariant.1, c.note_entry.ensures (entries_of args.numbers.now) (omega (arith, l.invariant.1, h, how-many (reg_info_of args.t.now) args.numbers.now (pre))) (at (reg_info_of args.t.now) args.numbers.now (pre) l.k (omega (arith, l.invariant.1, h))) l.invariant.2)

pub returns : goal.returns
returns c =
    let args = c.args in
    let pre = c.requires in
    let l = c.loop-k in let n = how-many (reg_info_of args.t.now) args.numbers.now (pre) in let e : l.k ≡ length (entries_of args.numbers.now) = omega (arith, n, l.invariant.0, l.invariant.1, c.loop-k-test.false) in (rw (← n) (all-labelled (reg_info_of args.t.now) (entries_of args.numbers.now) l.owners l.labels (λ i u h q. units-low (reg_info_of args.t.now) args.numbers.now i (pre.each i (omega (arith, n))) u (rw (at (reg_info_of args.t.now) args.numbers.now (pre) i (omega (arith, n))) at q)) (rw e at l.invariant.2)), tt)

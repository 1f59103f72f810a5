use mathlib.Core.Path.{◌≡◌, sym, ◌∙◌}
use native.Mathlib.Omega.{arith}
use Rattle.frame_table.specs.Table.{number_of, lacks_beside}
use Rattle.frame_table.proofs.Laws.{sum-none, sum_more, others-lack-is}
use Rattle.frame_table.proofs.others_lack.Goals as goal

pub loop-j-init : goal.loop-j-init
loop-j-init c = let s = c in (c.from-n.ensures, sym (sum-none (lacks_beside s.args.frame.now s.args.i)), omega arith, omega (arith, c.from-n.ensures, s.requires), omega arith)

pub lacks_beside-requires : goal.lacks_beside-requires
lacks_beside-requires c = omega (arith, c.loop-j-test.true, c.loop-j.invariant.3)

pub overflow_add-sum : goal.overflow_add-sum
overflow_add-sum c = let l = c.loop-j in omega (arith, l.invariant.4, l.invariant.3, l.invariant.2)

pub loop-j-preserved : goal.loop-j-preserved
loop-j-preserved c =
    let l = c.loop-j in
    let s = c in
    let more = sum_more (lacks_beside s.args.frame.now s.args.i) l.j in
    (l.invariant.0, omega (arith, c.from-sum.ensures, c.lacks_beside.ensures, l.invariant.1, more), omega (arith, c.loop-j-test.true), l.invariant.3, omega (arith, l.invariant.4))

pub returns : goal.returns
returns c =
    let l = c.loop-j in
    let s = c in
    let end : l.j ≡ number_of s.args.frame.now = omega (arith, c.loop-j-test.false, l.invariant.0, l.invariant.2) in
    l.invariant.1 ∙ (rw end (sym (others-lack-is s.args.frame.now s.args.i)))

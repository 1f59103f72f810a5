use Prim.Native.Nat.{◌%◌}
use native.Mathlib.Omega.{arith}
use lib.ListN.{get_or}
use Rattle.trying.proofs.Tally.{kinds-step, kinds-end, kinds-room}
use Rattle.trying.proofs.count_kinds.Goals as goal

pub overflow_add-tally : goal.overflow_add-tally
overflow_add-tally c =
    let s = c in
    let l = c.loop-word in
    omega (arith, kinds-room s.args.list.now s.args.tally.now l.tally l.word-index (get_or s.args.list.now l.word-index 0 % 8) l.invariant s.requires.0 s.requires.1 (omega arith))

pub loop-word-preserved : goal.loop-word-preserved
loop-word-preserved c =
    let l = c.loop-word in
    kinds-step _ _ l.tally l.word-index l.invariant c.loop-word-test.true

pub returns : goal.returns
returns c = let l = c.loop-word in kinds-end _ _ l.tally l.word-index l.invariant c.loop-word-test.false

use native.Mathlib.Omega.{arith}
use Rattle.frame_table.proofs.Laws.{filling-start, filling_step, filling-end, share-low}
use Rattle.frame_table.proofs.fill.Goals as goal

pub loop-i-init : goal.loop-i-init
loop-i-init c = let s = c in (filling-start s.args.limit s.args.shares.now s.args.frame.now c.told-frame, s.requires.0, s.requires.1, omega arith)

pub overflow_cast-frame-in-loop-i : goal.overflow_cast-frame-in-loop-i
overflow_cast-frame-in-loop-i c = let s = c in let l = c.loop-i in omega (arith, share-low s.args.shares.now l.i, l.invariant.2)

pub loop-i-preserved : goal.loop-i-preserved
loop-i-preserved c = let s = c in let l = c.loop-i in (filling_step s.args.limit s.args.shares.now l.frame l.i (omega (arith, c.loop-i-test.true, l.invariant.1)) l.invariant.0, l.invariant.1, l.invariant.2, omega (arith, c.loop-i-test.true))

pub returns : goal.returns
returns c = let l = c.loop-i in filling-end _ _ _ l.i c.loop-i-test.false l.invariant.0

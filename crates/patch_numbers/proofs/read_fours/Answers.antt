use native.Mathlib.Omega.{arith}
use Rattle.patch_numbers.proofs.Steps.{keeping-refused, keeping_step, keeping-end}
use Rattle.patch_numbers.proofs.read_fours.Goals as goal

pub returns-in-Refused : goal.returns-in-Refused
returns-in-Refused c = let a = c.args in let l = c.loop-i in keeping-refused a.s.now a.at a.n l.numbers l.q l.i l.invariant _ l.numbers (omega arith) (rw c.in-Refused.is at c.read_four.ensures)

pub loop-i-preserved : goal.loop-i-preserved
loop-i-preserved c = let a = c.args in let l = c.loop-i in keeping_step a.s.now a.at a.n l.numbers l.q l.i l.invariant _ _ _ _ _ _ (omega arith) c.requires (rw c.in-Is.is at c.read_four.ensures) c.put.ensures.1 c.put.ensures.0

pub returns : goal.returns
returns c = let a = c.args in let l = c.loop-i in keeping-end a.s.now a.at a.n l.numbers l.q l.i l.invariant (omega arith)

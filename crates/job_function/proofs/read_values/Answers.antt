use native.Mathlib.Omega.{arith}
use Rattle.job_function.proofs.Values.{filling-start, filling_step, filling-refused, filling-end}
use Rattle.job_function.proofs.read_values.Goals as goal

pub loop-v-init : goal.loop-v-init
loop-v-init c = filling-start _ _ _ _ _ c.told-f

pub returns-in-Refused : goal.returns-in-Refused
returns-in-Refused c = filling-refused _ _ _ _ _ _ _ c.loop-v.invariant (omega arith) c.requires.1 _ (rw c.in-Refused.is at c.read_value.ensures)

pub loop-v-preserved : goal.loop-v-preserved
loop-v-preserved c = filling_step _ _ _ _ _ _ _ c.loop-v.invariant (omega arith) c.requires.1 _ _ _ _ (rw c.in-Is.is at c.read_value.ensures)

pub returns : goal.returns
returns c = filling-end _ _ _ _ _ _ _ c.loop-v.invariant (omega arith)

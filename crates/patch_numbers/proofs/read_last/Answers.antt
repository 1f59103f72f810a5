use Rattle.patch_numbers.proofs.Steps.{last_none, last-refused, last-read}
use Rattle.patch_numbers.proofs.read_last.Goals as goal

pub returns-then-kind-gt0 : goal.returns-then-kind-gt0
returns-then-kind-gt0 c = let a = c.args in last_none a.s.now a.at a.kind a.x a.y c.if-kind-gt0.true

pub returns-in-Refused : goal.returns-in-Refused
returns-in-Refused c = last-refused _ _ _ _ _ _ c.if-kind-gt0.false (rw c.in-Refused.is at c.read.ensures)

pub returns-in-Is : goal.returns-in-Is
returns-in-Is c = last-read _ _ _ _ _ _ _ c.if-kind-gt0.false (rw c.in-Is.is at c.read.ensures)

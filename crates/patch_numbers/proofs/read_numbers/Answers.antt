use Rattle.patch_numbers.proofs.Steps.{free-refused, skipped-refused, skipped}
use Rattle.patch_numbers.proofs.read_numbers.Goals as goal

pub returns-in-Refused : goal.returns-in-Refused
returns-in-Refused c = let a = c.args in free-refused a.s.now a.at a.numbers.now _ (rw c.in-Refused.is at c.read.ensures)

pub returns-in-Refused-skip : goal.returns-in-Refused-skip
returns-in-Refused-skip c = let a = c.args in skipped-refused a.s.now a.at a.numbers.now _ _ _ (rw c.in-Is.is at c.read.ensures) (rw c.in-Refused-skip.is at c.skip.ensures)

pub returns-in-At : goal.returns-in-At
returns-in-At c = let a = c.args in skipped a.s.now a.at _ _ _ _ _ (rw c.in-Is.is at c.read.ensures) (rw c.in-At.is at c.skip.ensures) c.read_counted.ensures

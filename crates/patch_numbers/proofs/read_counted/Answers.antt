use Rattle.patch_numbers.proofs.Steps.{count-refused, too_many, fours-refused, fours-kept}
use Rattle.patch_numbers.proofs.read_counted.Goals as goal

pub returns-then-n-gt128 : goal.returns-then-n-gt128
returns-then-n-gt128 c = let a = c.args in too_many a.s.now a.at a.numbers.now _ _ (rw c.in-Is.is at c.read.ensures) c.if-n-gt128.true

pub returns-in-Refused : goal.returns-in-Refused
returns-in-Refused c = let a = c.args in count-refused a.s.now a.at a.numbers.now _ (rw c.in-Refused.is at c.read.ensures)

pub returns-in-Refused-read_fours : goal.returns-in-Refused-read_fours
returns-in-Refused-read_fours c = let a = c.args in fours-refused a.s.now a.at _ _ _ _ (rw c.in-Is.is at c.read.ensures) c.if-n-gt128.false (rw c.in-Refused-read_fours.is at c.read_fours.ensures)

pub returns-in-At : goal.returns-in-At
returns-in-At c = let a = c.args in fours-kept a.s.now a.at _ _ _ _ (rw c.in-Is.is at c.read.ensures) c.if-n-gt128.false (rw c.in-At.is at c.read_fours.ensures)

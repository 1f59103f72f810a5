use Rattle.patch_numbers.proofs.Steps.{no_kind, no-first, no_second, four-read}
use Rattle.patch_numbers.proofs.read_four.Goals as goal

pub returns-in-Refused : goal.returns-in-Refused
returns-in-Refused c = no_kind _ _ _ (rw c.in-Refused.is at c.read.ensures)

pub returns-in-Refused-read : goal.returns-in-Refused-read
returns-in-Refused-read c = no-first _ _ _ _ _ (rw c.in-Is.is at c.read.ensures) (rw c.in-Refused-read.is at c.read-in-Is.ensures)

pub returns-in-Refused-read-2 : goal.returns-in-Refused-read-2
returns-in-Refused-read-2 c = no_second _ _ _ _ _ _ _ (rw c.in-Is.is at c.read.ensures) (rw c.in-Is-read.is at c.read-in-Is.ensures) (rw c.in-Refused-read-2.is at c.read-in-Is-read.ensures)

pub returns-in-Is-read-2 : goal.returns-in-Is-read-2
returns-in-Is-read-2 c = four-read _ _ _ _ _ _ _ _ c.read_last.result (rw c.in-Is.is at c.read.ensures) (rw c.in-Is-read.is at c.read-in-Is.ensures) (rw c.in-Is-read-2.is at c.read-in-Is-read.ensures) c.read_last.ensures

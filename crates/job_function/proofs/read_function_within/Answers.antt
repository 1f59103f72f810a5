-- Number by number, then the values.
use native.Mathlib.Omega.{arith}
use Rattle.job_function.proofs.Values.{at_most}
use Rattle.job_function.proofs.Counts.{no-count, no-slots, no-limit, then-values}
use Rattle.job_function.proofs.read_function_within.Goals as goal

pub overflow_cast-n : goal.overflow_cast-n
overflow_cast-n c = omega (arith, at_most 0 4096 _ _ _ _ (rw c.in-Is.is at c.between.ensures))

pub overflow_cast-slots : goal.overflow_cast-slots
overflow_cast-slots c = omega (arith, c.requires.1, at_most _ _ _ _ _ _ (rw c.in-Is-between.is at c.between-in-Is.ensures))

pub overflow_cast-limit : goal.overflow_cast-limit
overflow_cast-limit c = omega (arith, at_most 0 2048 _ _ _ _ (rw c.in-Is-between-2.is at c.between-in-Is-between.ensures))

pub read_valued-requires : goal.read_valued-requires
read_valued-requires c = (c.requires.0, at_most 0 4096 _ _ _ _ (rw c.in-Is.is at c.between.ensures))

pub returns-in-Refused : goal.returns-in-Refused
returns-in-Refused c = no-count _ _ _ _ _ _ _ _ (rw c.in-Refused.is at c.between.ensures)

pub returns-in-Refused-between : goal.returns-in-Refused-between
returns-in-Refused-between c = no-slots _ _ _ _ _ _ _ _ _ (rw c.in-Is.is at c.between.ensures) _ (rw c.in-Refused-between.is at c.between-in-Is.ensures)

pub returns-in-Refused-between-2 : goal.returns-in-Refused-between-2
returns-in-Refused-between-2 c = no-limit _ _ _ _ _ _ _ _ _ (rw c.in-Is.is at c.between.ensures) _ _ (rw c.in-Is-between.is at c.between-in-Is.ensures) _ (rw c.in-Refused-between-2.is at c.between-in-Is-between.ensures)

pub returns-in-Is-between-2 : goal.returns-in-Is-between-2
returns-in-Is-between-2 c = then-values _ _ _ _ _ _ _ _ _ (rw c.in-Is.is at c.between.ensures) _ _ (rw c.in-Is-between.is at c.between-in-Is.ensures) _ _ (rw c.in-Is-between-2.is at c.between-in-Is-between.ensures) _ c.read_valued.ensures

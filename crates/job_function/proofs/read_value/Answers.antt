-- A value: its bank, its rebuild code, and its class unless the code is 0.
use native.Mathlib.Omega.{arith}
use Rattle.reginfo.proofs.Accepted.{banks-fit}
use Rattle.job_function.proofs.Values.{below-limit, no-bank, no-cost, never-remat, can-remat}
use Rattle.job_function.proofs.read_value.Goals as goal

pub overflow_cast-num_banks : goal.overflow_cast-num_banks
overflow_cast-num_banks c = omega (arith, c.num_banks.ensures, (banks-fit _ c.requires).1)

pub overflow_cast-result : goal.overflow_cast-result
overflow_cast-result c = omega (arith, c.num_banks.ensures, (banks-fit _ c.requires).1, below-limit _ _ _ _ _ (rw c.in-Is.is at c.below.ensures))

pub returns-then-cost-eq0 : goal.returns-then-cost-eq0
returns-then-cost-eq0 c = never-remat _ _ _ _ c.num_banks.ensures _ _ (rw c.in-Is.is at c.below.ensures) _ _ (rw c.in-Is-below.is at c.below-in-Is.ensures) c.if-cost-eq0.true

pub overflow_cast-bank : goal.overflow_cast-bank
overflow_cast-bank c = omega (arith, c.num_banks.ensures, (banks-fit _ c.requires).1, below-limit _ _ _ _ _ (rw c.in-Is.is at c.below.ensures))

pub overflow_cast-cost : goal.overflow_cast-cost
overflow_cast-cost c = omega (arith, below-limit _ _ _ _ _ (rw c.in-Is-below.is at c.below-in-Is.ensures))

pub returns-in-Refused : goal.returns-in-Refused
returns-in-Refused c = no-bank _ _ _ _ c.num_banks.ensures _ (rw c.in-Refused.is at c.below.ensures)

pub returns-in-Refused-below : goal.returns-in-Refused-below
returns-in-Refused-below c = no-cost _ _ _ _ c.num_banks.ensures _ _ (rw c.in-Is.is at c.below.ensures) _ (rw c.in-Refused-below.is at c.below-in-Is.ensures)

pub returns-else-cost-eq0 : goal.returns-else-cost-eq0
returns-else-cost-eq0 c = can-remat _ _ _ _ c.num_banks.ensures _ _ (rw c.in-Is.is at c.below.ensures) _ _ (rw c.in-Is-below.is at c.below-in-Is.ensures) c.if-cost-eq0.false _ c.read_remat_class.ensures

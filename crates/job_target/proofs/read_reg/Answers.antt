-- A register's three numbers, its cells, and then its units.
use native.Mathlib.Omega.{arith}
use Rattle.reading.proofs.Laws.{under, in-range}
use Rattle.job_target.proofs.Regs.{no-memory, no-bank, no-count, reg_read}
use Rattle.job_target.proofs.read_reg.Goals as goal

pub put_reg-requires : goal.put_reg-requires
put_reg-requires c =
    let m = under _ _ _ _ _ (rw c.in-Is.is at c.below.ensures) in
    let b = under _ _ _ _ _ (rw c.in-Is-below.is at c.below-in-Is.ensures) in
    let n = in-range _ _ _ _ _ _ (rw c.in-Is-between.is at c.between.ensures) in
    (c.requires.0, omega (arith, m), omega (arith, b, c.requires.2), omega (arith, n.1))

pub read_list-requires : goal.read_list-requires
read_list-requires c = (omega (arith, c.requires.0), c.requires.1)

pub returns-in-Refused : goal.returns-in-Refused
returns-in-Refused c = no-memory _ _ _ _ _ _ _ (rw c.in-Refused.is at c.below.ensures)

pub returns-in-Refused-below : goal.returns-in-Refused-below
returns-in-Refused-below c = no-bank _ _ _ _ _ _ _ _ (rw c.in-Is.is at c.below.ensures) _ (rw c.in-Refused-below.is at c.below-in-Is.ensures)

pub returns-in-Refused-between : goal.returns-in-Refused-between
returns-in-Refused-between c = no-count _ _ _ _ _ _ _ _ (rw c.in-Is.is at c.below.ensures) _ _ (rw c.in-Is-below.is at c.below-in-Is.ensures) _ (rw c.in-Refused-between.is at c.between.ensures)

pub returns-in-Is-between : goal.returns-in-Is-between
returns-in-Is-between c = reg_read _ _ _ _ _ _ _ _ _ _ _ _ _ _ _ (rw c.in-Is.is at c.below.ensures) (rw c.in-Is-below.is at c.below-in-Is.ensures) (rw c.in-Is-between.is at c.between.ensures) c.put_reg.ensures c.read_list.ensures

-- A bank's three numbers, and then its cells.
use native.Mathlib.Omega.{arith}
use Rattle.reading.proofs.Laws.{in-range}
use Rattle.job_target.proofs.Banks.{no_size, no_top, no_stack, bank-read}
use Rattle.job_target.proofs.read_bank.Goals as goal

pub put_bank-requires : goal.put_bank-requires
put_bank-requires c =
    let r = in-range _ _ _ _ _ _ (rw c.in-Is.is at c.between.ensures) in
    (c.requires, omega (arith, r.1))

pub returns-in-Refused : goal.returns-in-Refused
returns-in-Refused c = no_size _ _ _ _ _ (rw c.in-Refused.is at c.between.ensures)

pub returns-in-Refused-read : goal.returns-in-Refused-read
returns-in-Refused-read c = no_top _ _ _ _ _ _ (rw c.in-Is.is at c.between.ensures) _ (rw c.in-Refused-read.is at c.read.ensures)

pub returns-in-Refused-read-2 : goal.returns-in-Refused-read-2
returns-in-Refused-read-2 c = no_stack _ _ _ _ _ _ (rw c.in-Is.is at c.between.ensures) _ _ (rw c.in-Is-read.is at c.read.ensures) _ (rw c.in-Refused-read-2.is at c.read-in-Is-read.ensures)

pub returns-in-Is-read-2 : goal.returns-in-Is-read-2
returns-in-Is-read-2 c = bank-read _ _ _ _ _ _ (rw c.in-Is.is at c.between.ensures) _ _ (rw c.in-Is-read.is at c.read.ensures) _ _ (rw c.in-Is-read-2.is at c.read-in-Is-read.ensures) c.put_bank.ensures.0 c.put_bank.ensures.1

-- The bank count, its cell, the banks, and then the registers.
use native.Mathlib.Omega.{arith}
use Rattle.reading.proofs.Laws.{in-range}
use Rattle.job_target.proofs.Whole.{no-bank-count, no-banks, banks-read, banks-count, banks-units}
use Rattle.job_target.proofs.read_banks.Goals as goal

pub put-requires : goal.put-requires
put-requires c =
    let n = in-range _ _ _ _ _ _ (rw c.in-Is.is at c.between.ensures) in
    (omega arith, omega (arith, n.1))

pub read_bank_rows-requires : goal.read_bank_rows-requires
read_bank_rows-requires c = (in-range _ _ _ _ _ _ (rw c.in-Is.is at c.between.ensures)).1

pub read_regs-requires : goal.read_regs-requires
read_regs-requires c =
    let p = c.requires in
    let n = in-range _ _ _ _ _ _ (rw c.in-Is.is at c.between.ensures) in
    let rows = rw c.in-At.is at c.read_bank_rows.ensures in
    (banks-units _ _ _ _ _ p.0 c.put.ensures rows.past.2, banks-count _ _ _ _ _ p.0 c.put.ensures rows.past.2, p.1, n.1)

pub returns-in-Refused : goal.returns-in-Refused
returns-in-Refused c = no-bank-count _ _ _ _ _ _ (rw c.in-Refused.is at c.between.ensures)

pub returns-in-Refused-read_bank_rows : goal.returns-in-Refused-read_bank_rows
returns-in-Refused-read_bank_rows c = no-banks _ _ _ _ _ _ _ (rw c.in-Is.is at c.between.ensures) _ _ _ (rw c.in-Refused-read_bank_rows.is at c.read_bank_rows.ensures)

pub returns-in-At : goal.returns-in-At
returns-in-At c = banks-read _ _ _ _ _ _ _ (rw c.in-Is.is at c.between.ensures) _ _ _ _ (rw c.in-At.is at c.read_bank_rows.ensures) c.read_regs.ensures

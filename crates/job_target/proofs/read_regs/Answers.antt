-- The register count, its cell, the registers, and then the classes.
use native.Mathlib.Omega.{arith}
use Rattle.reading.proofs.Laws.{in-range}
use Rattle.job_target.proofs.Whole.{no-reg-count, no_regs, regs_read, regs-banks, regs_count}
use Rattle.job_target.proofs.read_regs.Goals as goal

pub put-requires : goal.put-requires
put-requires c =
    let n = in-range _ _ _ _ _ _ (rw c.in-Is.is at c.between.ensures) in
    (omega arith, omega (arith, n.1))

pub read_reg_rows-requires : goal.read_reg_rows-requires
read_reg_rows-requires c =
    let n = in-range _ _ _ _ _ _ (rw c.in-Is.is at c.between.ensures) in
    (n.1, c.requires.2, c.requires.3)

pub read_classes-requires : goal.read_classes-requires
read_classes-requires c =
    let p = c.requires in
    let n = in-range _ _ _ _ _ _ (rw c.in-Is.is at c.between.ensures) in
    let rows = rw c.in-At.is at c.read_reg_rows.ensures in
    (regs-banks _ _ _ _ _ _ p.0 p.1 p.3 c.put.ensures rows.past.2, regs_count _ _ _ _ _ _ p.0 p.1 p.3 c.put.ensures rows.past.2, p.3, n.1, rows.past.2.few)

pub returns-in-Refused : goal.returns-in-Refused
returns-in-Refused c = no-reg-count _ _ _ _ _ _ _ _ (rw c.in-Refused.is at c.between.ensures)

pub returns-in-Refused-read_reg_rows : goal.returns-in-Refused-read_reg_rows
returns-in-Refused-read_reg_rows c = no_regs _ _ _ _ _ _ _ _ _ (rw c.in-Is.is at c.between.ensures) _ _ _ (rw c.in-Refused-read_reg_rows.is at c.read_reg_rows.ensures)

pub returns-in-At : goal.returns-in-At
returns-in-At c =
    let p = c.requires in
    regs_read _ _ _ _ _ _ _ _ _ _ _ _ p.0 p.1 p.3 (rw c.in-Is.is at c.between.ensures) c.put.ensures (rw c.in-At.is at c.read_reg_rows.ensures) c.read_classes.ensures

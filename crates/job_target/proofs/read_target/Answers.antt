-- The units, their cell, and then the rest.
use native.Mathlib.Omega.{arith}
use Rattle.reading.proofs.Laws.{in-range}
use Rattle.job_target.proofs.Whole.{no-units, target-read}
use Rattle.job_target.proofs.read_target.Goals as goal

pub put-requires : goal.put-requires
put-requires c =
    let n = in-range _ _ _ _ _ _ (rw c.in-Is.is at c.between.ensures) in
    (omega arith, omega (arith, n.1))

pub read_banks-requires : goal.read_banks-requires
read_banks-requires c = (c.put.ensures.here, (in-range _ _ _ _ _ _ (rw c.in-Is.is at c.between.ensures)).1)

pub returns-in-Refused : goal.returns-in-Refused
returns-in-Refused c = no-units _ _ _ _ (rw c.in-Refused.is at c.between.ensures)

pub returns-in-Is : goal.returns-in-Is
returns-in-Is c = target-read _ _ _ _ _ _ (rw c.in-Is.is at c.between.ensures) c.read_banks.ensures

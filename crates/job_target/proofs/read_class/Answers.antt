-- The bank and the slots, their cells, and then the lists.
use native.Mathlib.Omega.{arith}
use Rattle.reading.proofs.Laws.{under}
use Rattle.job_target.proofs.Classes.{no-class-bank, no-slots, class-read}
use Rattle.job_target.proofs.read_class.Goals as goal

pub put-requires : goal.put-requires
put-requires c =
    let b = under _ _ _ _ _ (rw c.in-Is.is at c.below.ensures) in
    (omega (arith, c.requires.0), omega (arith, b, c.requires.1))

pub put-requires-in-Is-below : goal.put-requires-in-Is-below
put-requires-in-Is-below c =
    let z = under _ _ _ _ _ (rw c.in-Is-below.is at c.below-in-Is.ensures) in
    (omega (arith, c.requires.0), omega (arith, z))

pub read_members-requires : goal.read_members-requires
read_members-requires c = (c.requires.0, c.requires.2, c.requires.3)

pub returns-in-Refused : goal.returns-in-Refused
returns-in-Refused c = no-class-bank _ _ _ _ _ _ _ _ (rw c.in-Refused.is at c.below.ensures)

pub returns-in-Refused-below : goal.returns-in-Refused-below
returns-in-Refused-below c = no-slots _ _ _ _ _ _ _ _ _ (rw c.in-Is.is at c.below.ensures) _ (rw c.in-Refused-below.is at c.below-in-Is.ensures)

pub returns-in-Is-below : goal.returns-in-Is-below
returns-in-Is-below c = class-read _ _ _ _ _ _ _ _ _ _ _ _ _ _ _ c.requires.0 (rw c.in-Is.is at c.below.ensures) (rw c.in-Is-below.is at c.below-in-Is.ensures) c.put.ensures c.put-in-Is-below.ensures c.read_members.ensures

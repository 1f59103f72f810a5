-- The class count, held against the banks' classes, its cell, and then the classes.
use native.Mathlib.Omega.{arith}
use Rattle.reading.proofs.Laws.{in-range}
use Rattle.job_target.proofs.Whole.{no-classes, unknown-classes, classes-read}
use Rattle.job_target.proofs.read_classes.Goals as goal

pub unknown_class-requires : goal.unknown_class-requires
unknown_class-requires c = c.requires.2

pub returns-then-unknown_class : goal.returns-then-unknown_class
returns-then-unknown_class c = unknown-classes _ _ _ _ _ _ _ _ _ _ _ _ (rw c.in-Is.is at c.between.ensures) c.unknown_class.ensures c.if-unknown_class.true

pub put-requires : goal.put-requires
put-requires c =
    let n = in-range _ _ _ _ _ _ (rw c.in-Is.is at c.between.ensures) in
    (omega arith, omega (arith, n.1))

pub read_class_rows-requires : goal.read_class_rows-requires
read_class_rows-requires c =
    let n = in-range _ _ _ _ _ _ (rw c.in-Is.is at c.between.ensures) in
    (n.1, c.requires.2, c.requires.3)

pub returns-in-Refused : goal.returns-in-Refused
returns-in-Refused c = no-classes _ _ _ _ _ _ _ _ _ _ (rw c.in-Refused.is at c.between.ensures)

pub returns-else-unknown_class : goal.returns-else-unknown_class
returns-else-unknown_class c =
    let p = c.requires in
    classes-read _ _ _ _ _ _ p.0 p.1 p.2 p.3 p.4 c.put.ensures _ _ _ _ _ (rw c.in-Is.is at c.between.ensures) c.unknown_class.ensures c.if-unknown_class.false c.read_class_rows.ensures

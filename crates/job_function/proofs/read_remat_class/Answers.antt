-- The class of a value: read, named, and held against the value's bank.
use mathlib.Core.Path.{sym}
use native.Mathlib.Omega.{arith}
use borrow.Author.Tests.{eqb-true, eqb-false}
use Rattle.reginfo.proofs.Accepted.{classes-fit, known-class}
use Rattle.job_function.proofs.Values.{below-limit, no-class, own-class, foreign-class}
use Rattle.job_function.proofs.read_remat_class.Goals as goal

pub overflow_cast-num_classes : goal.overflow_cast-num_classes
overflow_cast-num_classes c = omega (arith, c.num_classes.ensures, (classes-fit _ c.requires).1)

pub overflow_cast-class : goal.overflow_cast-class
overflow_cast-class c = omega (arith, (classes-fit _ c.requires).1, c.num_classes.ensures, below-limit _ _ _ _ _ (rw c.in-Is.is at c.below.ensures))

pub bank_for_class-own-requires : goal.bank_for_class-own-requires
bank_for_class-own-requires c = known-class _ c.requires _ (omega (arith, c.num_classes.ensures, below-limit _ _ _ _ _ (rw c.in-Is.is at c.below.ensures)))

pub returns-then-eq : goal.returns-then-eq
returns-then-eq c = own-class _ _ _ _ _ _ c.num_classes.ensures _ _ _ (rw c.in-Is.is at c.below.ensures) c.bank_for_class-own.ensures (eqb-true _ _ (sym c.if-eq.ensures))

pub returns-in-Refused : goal.returns-in-Refused
returns-in-Refused c = no-class _ _ _ _ _ _ c.num_classes.ensures _ (rw c.in-Refused.is at c.below.ensures)

pub returns-else-eq : goal.returns-else-eq
returns-else-eq c = foreign-class _ _ _ _ _ _ c.num_classes.ensures _ _ _ (rw c.in-Is.is at c.below.ensures) c.bank_for_class-own.ensures (eqb-false _ _ (sym c.if-eq.ensures))

use native.Mathlib.Omega.{arith}
use Rattle.job_rules.proofs.Opening.{opening-any}
use borrow.Author.Rules.{rules}
use Rattle.job.proofs.read_priced_opening.Goals as goal

pub read_opening_if-requires : goal.read_opening_if-requires
read_opening_if-requires c = omega arith

pub returns : goal.returns
returns c = rw (opening-any _ _ _, c.in_range.ensures) at c.read_opening_if.ensures

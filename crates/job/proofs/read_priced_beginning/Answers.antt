-- `read_priced_beginning` meets its contract.
use native.Mathlib.Omega.{arith}
use Rattle.job_rules.proofs.Opening.{beginning-any}
use borrow.Author.Rules.{rules}
use Rattle.job.proofs.read_priced_beginning.Goals as goal

pub read_beginning_if-requires : goal.read_beginning_if-requires
read_beginning_if-requires c = omega arith

pub returns : goal.returns
returns c = rw (beginning-any _ _ _, c.in_range.ensures) at c.read_beginning_if.ensures

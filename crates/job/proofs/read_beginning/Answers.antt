use Rattle.job_rules.proofs.Opening.{beginning-any, beginning-unpriced}
use native.Mathlib.Omega.{arith}
use Rattle.job.proofs.read_beginning.Goals as goal

pub read_beginning_if-requires : goal.read_beginning_if-requires
read_beginning_if-requires c = omega arith

pub returns : goal.returns
returns c = rw (beginning-any _ _ _, beginning-unpriced _ _) at c.read_beginning_if.ensures

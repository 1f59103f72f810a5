use Rattle.job_rules.proofs.Opening.{opening-any, opening-unpriced}
use native.Mathlib.Omega.{arith}
use Rattle.job.proofs.read_opening.Goals as goal

pub read_opening_if-requires : goal.read_opening_if-requires
read_opening_if-requires c = omega arith

pub returns : goal.returns
returns c = rw (opening-any _ _ _, opening-unpriced _ _) at c.read_opening_if.ensures

use native.Mathlib.Omega.{arith}
use Rattle.job_function.proofs.Counts.{any-slots}
use Rattle.job_function.proofs.read_function.Goals as goal

pub read_function_within-requires : goal.read_function_within-requires
read_function_within-requires c = (c.requires, omega arith)

pub returns : goal.returns
returns c = any-slots _ _ _ _ _ _ c.read_function_within.ensures

-- `stamp` meets its contract.
use native.Mathlib.Omega.{arith}
use Rattle.slots.specs.Stacks.{stamp_of}
use Rattle.slots.proofs.stamp.Goals as goal

pub returns : goal.returns
unfolding stamp_of
returns c = (omega arith, omega arith)

-- `is_first` meets its contract.
use native.Mathlib.Omega.{arith}
use Rattle.grouping.proofs.is_first.Goals as goal

pub bounds-labels-i : goal.bounds-labels-i
bounds-labels-i c = omega (arith, c.requires)

pub returns : goal.returns
returns c = rw c.from.ensures

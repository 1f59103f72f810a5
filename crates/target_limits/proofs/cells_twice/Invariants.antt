-- The number at each cell so far is not among the cells after it.
use Prim.Native.Nat.{ℕ, ◌<◌}
use mathlib.Core.Path.{◌≡◌}
use mathlib.Core.Bool.{false}
use Rattle.target_limits.proofs.Walks.{again}
use Rattle.target_limits.proofs.cells_twice.Given as goal

abbrev pub invariant-loop-i : goal.invariant-loop-i
invariant-loop-i l = (k : ℕ) → k < l.i → again l.t l.at l.n k ≡ false

-- `differ` meets its contract: the first i words are the same.
use Prim.Native.Nat.{◌-◌}
use mathlib.Core.Path.{◌≡◌}
use Rattle.scratch_trials.specs.Cells.{differ_from}
use Rattle.scratch_trials.proofs.differ.Given as goal

abbrev pub invariant-loop-i : goal.invariant-loop-i
invariant-loop-i l = differ_from 9 0 l.list l.want ≡ differ_from (9 - l.i) l.i l.list l.want

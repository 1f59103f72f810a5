-- The cells of the first i formulas are filled.
use Prim.Native.Nat.{◌≤◌}
use lib.ListN.{length}
use Rattle.frame_table.specs.Opening.{sum_of}
use Rattle.frame_table.proofs.Laws.{Filling}
use Rattle.frame_table.proofs.fill.Given as goal

abbrev pub invariant-loop-i : goal.invariant-loop-i
invariant-loop-i l = Filling l.limit l.shares l.i l.frame × (length l.shares ≤ 16) × (sum_of l.shares ≤ l.limit) × (l.i ≤ length l.shares)

-- `start` meets its contract: the counts of the first moves' values are 0, and what is left to do is that of the others.
use Prim.Native.Nat.{ℕ, ◌≤◌, ◌<◌}
use mathlib.Core.Path.{◌≡◌}
use lib.ListN.{length, get_or, drop}
use Rattle.rules.specs.Order.{no_move}
use Rattle.visits.specs.Marks.{moves_of, uncounted}
use Rattle.visits.proofs.start.Given as goal

abbrev pub invariant-loop-i : goal.invariant-loop-i
invariant-loop-i l = (length l.d ≡ 12288) × ((k : ℕ) → k < l.i → get_or l.d (get_or (moves_of l.e) k no_move).value 0 ≡ 0) × (l.i ≤ length (moves_of l.e)) × (uncounted (moves_of l.e) l.initial.d ≡ uncounted (drop l.i (moves_of l.e)) l.d)

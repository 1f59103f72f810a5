-- `clear_marks` meets its contract: all marks below the index are 0.
use Prim.Native.Nat.{ℕ, ◌<◌, ◌≤◌}
use mathlib.Core.Path.{◌≡◌}
use lib.ListN.{length, get_or}
use Rattle.cells.proofs.clear_marks.Given as goal

abbrev pub invariant-loop-i : goal.invariant-loop-i
invariant-loop-i l = (length l.c ≡ 67072) × ((x : ℕ) → x < l.i → get_or l.c x 0 ≡ 0) × (l.i ≤ 6656)

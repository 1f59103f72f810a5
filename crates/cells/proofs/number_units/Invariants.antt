-- `number_units` meets its contract: the units below the index hold their own numbers, and the marks stay.
use Prim.Native.Nat.{ℕ, ◌+◌, ◌<◌, ◌≤◌}
use mathlib.Core.Path.{◌≡◌}
use lib.ListN.{length, get_or}
use Rattle.cells.proofs.number_units.Given as goal

abbrev pub invariant-loop-u : goal.invariant-loop-u
invariant-loop-u l = (length l.c ≡ 67072) × ((x : ℕ) → x < 6656 → get_or l.c x 0 ≡ get_or l.initial.c x 0) × ((x : ℕ) → x < l.u → get_or l.c (6656 + x) 0 ≡ x) × (l.u ≤ 512)

-- `store` meets its contract: the words below the index are stored, and nothing else is.
use Prim.Native.Nat.{ℕ, ◌+◌, ◌<◌, ◌≤◌}
use mathlib.Core.Path.{◌≡◌}
use lib.ListN.{length, get_or}
use Rattle.cells.specs.Cells.{count_in}
use Rattle.cells.proofs.store.Given as goal

abbrev pub invariant-loop-j : goal.invariant-loop-j
invariant-loop-j l = (length l.c ≡ 67072) × ((k : ℕ) → k < l.j → get_or l.c (l.to + k) 0 ≡ get_or l.b (1 + k) 0) × ((x : ℕ) → x < l.to → get_or l.c x 0 ≡ get_or l.initial.c x 0) × ((x : ℕ) → l.to + l.j ≤ x → get_or l.c x 0 ≡ get_or l.initial.c x 0) × (l.j ≤ l.n) × (l.n ≡ count_in l.b)

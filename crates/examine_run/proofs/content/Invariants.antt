-- `content` meets its contract: the words below the index stand in the list.
use Prim.Native.Nat.{ℕ, ◌+◌, ◌<◌, ◌≤◌}
use mathlib.Core.Path.{◌≡◌}
use lib.ListN.{length, get_or}
use Rattle.examine_run.proofs.content.Given as goal

abbrev pub invariant-loop-j : goal.invariant-loop-j
invariant-loop-j l = (length l.b ≡ 10) × ((k : ℕ) → k < l.j → get_or l.b (1 + k) 0 ≡ l.first + k) × (l.j ≤ l.n)

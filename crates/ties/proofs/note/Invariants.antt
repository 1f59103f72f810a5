-- `note` meets its contract: those below the index are noted.
use Prim.Native.Nat.{ℕ, ◌+◌, ◌<◌, ◌≤◌}
use mathlib.Core.Path.{◌≡◌}
use lib.ListN.{get_or}
use Rattle.ties.specs.Ties.{kept, NotedTo}
use Rattle.ties.proofs.note.Given as goal

abbrev pub invariant-loop-i : goal.invariant-loop-i
invariant-loop-i l = NotedTo l.e l.x l.i × ((m : ℕ) → m < l.i → get_or l.x (12288 + m) 0 ≡ m) × (l.i ≤ kept l.e) × (l.n ≡ kept l.e)

-- `tie` meets its contract: those below the index are joined.
use Prim.Native.Nat.{◌≤◌}
use mathlib.Core.Path.{◌≡◌}
use Rattle.ties.specs.Ties.{kept}
use Rattle.ties.proofs.Laws.{Joining}
use Rattle.ties.proofs.tie.Given as goal

abbrev pub invariant-loop-i : goal.invariant-loop-i
invariant-loop-i l = Joining l.e l.x l.i × (l.i ≤ kept l.e) × (l.n ≡ kept l.e)

-- `main` meets its contract: no count is above that of the records.
use Prim.Native.Nat.{◌≤◌}
use Rattle.replay.proofs.main.Given as goal

abbrev pub invariant-loop-k : goal.invariant-loop-k
invariant-loop-k l = (l.same ≤ l.k) × (l.differ ≤ l.k)

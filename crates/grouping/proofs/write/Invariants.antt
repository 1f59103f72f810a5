-- `write` meets its contract: word by word.
use mathlib.Core.Path.{◌≡◌}
use Prim.Native.Nat.{◌≤◌}
use lib.ListN.{length}
use Rattle.grouping.specs.Copied.{Written}
use Rattle.grouping.proofs.write.Given as goal

abbrev pub invariant-loop-i : goal.invariant-loop-i
invariant-loop-i l = (l.i ≤ l.n) × (length l.list ≡ length l.initial.list) × Written l.words l.i l.initial.list l.list

-- `hand_out` meets its contract. The invariant: the words put in, those to come, and what stands past them.
use Prim.Native.Nat.{◌-◌}
use mathlib.Core.Path.{◌≡◌}
use mathlib.Core.List.{◌++◌}
use lib.ListN.{length, take, drop}
use Rattle.edit.specs.Buffer.{newest_first}
use Rattle.edit.proofs.hand_out.Given as goal

abbrev pub invariant-loop-i : goal.invariant-loop-i
invariant-loop-i l = (newest_first l.e l.n ++ drop l.n l.initial.list ≡ take l.i l.list ++ (newest_first l.e (l.n - l.i) ++ drop l.n l.list)) × (length l.list ≡ length l.initial.list)

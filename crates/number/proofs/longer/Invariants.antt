-- `longer` meets its contract: each turn reads one group more.
use Prim.Native.Nat.{◌-◌}
use Rattle.number.proofs.Reading.{Reading}
use Rattle.number.proofs.longer.Given as goal

abbrev pub invariant-loop-group : goal.invariant-loop-group
invariant-loop-group l = Reading l.s l.at l.n l.weight l.next (4 - l._group)

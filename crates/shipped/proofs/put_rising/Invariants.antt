-- `put_rising` meets its contract. The invariant: the writes from the start are the writes from here.
use Prim.Native.Nat.{◌+◌, ◌-◌}
use mathlib.Core.Path.{◌≡◌}
use Rattle.shipped.specs.Writes.{written, rising}
use Rattle.shipped.proofs.put_rising.Given as goal

abbrev pub invariant-loop-i : goal.invariant-loop-i
invariant-loop-i l = written l.initial.t (rising l.at l.x l.n) ≡ written l.t (rising (l.at + l.i) (l.x + l.i) (l.n - l.i))

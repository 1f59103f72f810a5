-- `put_units` meets its contract. The invariant: the writes from the start are the writes from here.
use Prim.Native.Nat.{◌+◌}
use mathlib.Core.Path.{◌≡◌}
use lib.ListN.{drop}
use Rattle.shipped.specs.Shipped.{shipped_units}
use Rattle.shipped.specs.Writes.{written, copied}
use Rattle.shipped.proofs.put_units.Given as goal

abbrev pub invariant-loop-j : goal.invariant-loop-j
invariant-loop-j l = written l.initial.t (copied l.at (shipped_units l.r.0)) ≡ written l.t (copied (l.at + l.j) (drop l.j (shipped_units l.r.0)))

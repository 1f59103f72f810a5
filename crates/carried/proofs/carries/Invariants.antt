-- `carries` meets its contract: the rows from here on decide.
use Prim.Native.Nat.{◌-◌}
use mathlib.Core.Path.{◌≡◌}
use Rattle.entity.specs.Logic.{has}
use Rattle.carried.specs.Carried.{rows_of}
use Rattle.carried.proofs.carries.Given as goal

abbrev pub invariant-loop-i : goal.invariant-loop-i
invariant-loop-i l = has l.v.0 (rows_of l.c 0 l.n l.m) ≡ has l.v.0 (rows_of l.c l.i (l.n - l.i) l.m)

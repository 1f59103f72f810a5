-- `number_in` meets its contract: digit by digit.
use Prim.Native.Nat.{◌≤◌}
use mathlib.Core.Path.{◌≡◌}
use lib.ListN.{length, drop}
use Rattle.arguments.specs.Number.{number_from}
use Rattle.arguments.proofs.number_in.Given as goal

abbrev pub invariant-loop-i : goal.invariant-loop-i
invariant-loop-i l = (number_from l.initial.n (drop l.initial.i l.arg) ≡ number_from l.n (drop l.i l.arg)) × (l.n ≤ 42949672969) × (l.i ≤ length l.arg)

-- `skip` meets its contract. The loop's invariant: what is left is passed over from here on.
use Prim.Native.Nat.{◌-◌}
use mathlib.Core.Path.{◌≡◌}
use lib.ListN.{drop}
use Rattle.patch_numbers.specs.Numbers.{passed}
use Rattle.patch_numbers.proofs.skip.Given as goal

abbrev pub invariant-loop-done : goal.invariant-loop-done
invariant-loop-done l = passed l.n (drop l.at l.s) ≡ passed (l.n - l._done) (drop l.q l.s)

-- `recorded` meets its contract: the numbers before k are not the text's.
use Prim.Native.Nat.{◌-◌}
use mathlib.Core.Path.{◌≡◌}
use Rattle.rewrite.specs.Rewritten.{recorded_from, recorded_in}
use Rattle.rewrite.proofs.recorded.Given as goal

abbrev pub invariant-loop-k : goal.invariant-loop-k
invariant-loop-k l = recorded_in l.text ≡ recorded_from l.text l.k (23 - l.k)

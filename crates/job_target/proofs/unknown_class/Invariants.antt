-- A search over the banks.
use Prim.Native.Nat.{◌-◌}
use Rattle.job_target.proofs.Banks.{Searched}
use Rattle.job_target.proofs.unknown_class.Given as goal

abbrev pub invariant-loop-b : goal.invariant-loop-b
invariant-loop-b l = Searched l.t l.banks l.n l.b (l.banks - l.b)

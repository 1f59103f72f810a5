use Prim.Native.Nat.{◌-◌}
use Rattle.job_patch.proofs.Entering.{Entering}
use Rattle.job_patch.proofs.read_entries.Given as goal

abbrev pub invariant-loop-done : goal.invariant-loop-done
invariant-loop-done l = Entering l.t l.f l.s l.at l.n l.q (l.n - l._done) l.e l.w

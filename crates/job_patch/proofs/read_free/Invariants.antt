use Prim.Native.Nat.{◌-◌}
use Rattle.job_patch.proofs.Freeing.{Freeing}
use Rattle.job_patch.proofs.read_free.Given as goal

abbrev pub invariant-loop-done : goal.invariant-loop-done
invariant-loop-done l = Freeing l.s l.units l.at l.n l.q l.least (l.n - l._done) l.free

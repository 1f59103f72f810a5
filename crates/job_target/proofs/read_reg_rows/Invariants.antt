-- The registers one after the other, each into its row.
use Prim.Native.Nat.{◌-◌}
use Rattle.job_target.proofs.Regs.{RegRows}
use Rattle.job_target.proofs.read_reg_rows.Given as goal

abbrev pub invariant-loop-r : goal.invariant-loop-r
invariant-loop-r l = RegRows l.units l.banks l.s l.from l.n l.initial.t l.t l.at l.r (l.n - l.r)

-- The numbers one after the other, each into its cell.
use Prim.Native.Nat.{◌-◌}
use Rattle.job_target.specs.Steps.{seen_in}
use Rattle.job_target.proofs.Listed.{Cells}
use Rattle.job_target.proofs.read_list.Given as goal

abbrev pub invariant-loop-i : goal.invariant-loop-i
invariant-loop-i l = Cells l.limit l.s l.from l.n l.start l.initial.t (seen_in l.seen) l.t l.at l.i (l.n - l.i)

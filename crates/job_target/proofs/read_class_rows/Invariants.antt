-- The classes one after the other, each into its row, with the order entries so far.
use Prim.Native.Nat.{◌-◌}
use Rattle.job_target.proofs.Classes.{ClassRows}
use Rattle.job_target.proofs.read_class_rows.Given as goal

abbrev pub invariant-loop-c : goal.invariant-loop-c
invariant-loop-c l = ClassRows l.banks l.regs l.s l.from l.n l.initial.t l.t l.at l.c (l.n - l.c) l.total

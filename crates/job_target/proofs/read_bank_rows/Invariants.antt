-- The banks one after the other, each into its row.
use Prim.Native.Nat.{◌-◌}
use Rattle.job_target.proofs.Banks.{BankRows}
use Rattle.job_target.proofs.read_bank_rows.Given as goal

abbrev pub invariant-loop-b : goal.invariant-loop-b
invariant-loop-b l = BankRows l.s l.from l.n l.initial.t l.t l.at l.b (l.n - l.b)

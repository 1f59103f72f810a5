-- `compare` meets its contract: what was written, held against the job.
use Prim.Native.Nat.{ℕ}
use native.Mathlib.Omega.{arith}
use lib.ListN.{length-replicate}
use Rattle.job_numbers.specs.Numbers.{written}
use Rattle.rewrite.proofs.Rewriting.{written_as}
use Rattle.rewrite.proofs.compare.Goals as goal

pub held-requires : goal.held-requires
held-requires c n e =
    let o = c.write-r in
    omega (arith, (written_as (written c.args.numbers.now 16384) _ o.new.out o.result (rw (length-replicate {A = ℕ} 16384 0) at o.ensures) n e).0, o.auto.out, length-replicate {A = ℕ} 16384 0)

pub returns : goal.returns
returns c = let o = c.write-r in c.held.ensures (written c.args.numbers.now 16384) _ (rw (length-replicate {A = ℕ} 16384 0) at o.ensures)

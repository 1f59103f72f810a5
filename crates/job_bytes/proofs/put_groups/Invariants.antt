-- `put_groups` meets its contract: what is left of the number has a group less with each turn.
use Prim.Native.Nat.{ℕ, ◌^◌, ◌<◌}
use Rattle.number.specs.Number.{groups_of, encoded}
use Rattle.job_bytes.proofs.Putting.{Left}
use Rattle.job_bytes.proofs.put_groups.Given as goal

abbrev pub invariant-loop-rest : goal.invariant-loop-rest
invariant-loop-rest l = (k : ℕ) × (0 < k) × (l.rest < 128 ^ k) × Left l.initial.work l.at (encoded l.n) l.work l.q (groups_of k l.rest)

abbrev pub decreases-loop-rest : goal.decreases-loop-rest
decreases-loop-rest l = l.rest

-- `put_rows` meets its contract: row by row.
use Prim.Native.Nat.{ℕ, ◌-◌, ◌<◌}
use mathlib.Core.List.{List}
use Rattle.entity.specs.Logic.{indices}
use Rattle.job_numbers.specs.Numbers.{each_of}
use Rattle.job_bytes.specs.Puts.{Puts}
use Rattle.job_bytes.proofs.Putting.{Left}
use Rattle.job_bytes.proofs.put_rows.Given as goal

abbrev pub invariant-loop-i : goal.invariant-loop-i
invariant-loop-i g l =
    (row : ℕ → List ℕ) → ((w : _) (q i : _) (r : _) (w′ : _) → i < l.fn.n → goal.F-post g l.fn.put w q i r w′ → Puts w.now q (row i) w′.now r)
    → Left l.initial.work l.at (each_of row (indices 0 l.n)) l.work l.q (each_of row (indices l.i (l.n - l.i)))

-- `put_cells` meets its contract: cell by cell.
use Prim.Native.Nat.{◌+◌, ◌-◌}
use Rattle.entity.specs.Logic.{cells}
use Rattle.job_numbers.specs.Numbers.{bytes_of}
use Rattle.job_bytes.proofs.Putting.{Left}
use Rattle.job_bytes.proofs.put_cells.Given as goal

abbrev pub invariant-loop-i : goal.invariant-loop-i
invariant-loop-i l = Left l.initial.work l.at (bytes_of (cells l.t l.start l.n)) l.work l.q (bytes_of (cells l.t (l.start + l.i) (l.n - l.i)))

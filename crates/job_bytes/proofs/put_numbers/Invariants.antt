-- `put_numbers` meets its contract: number by number.
use lib.ListN.{drop}
use Rattle.job_numbers.specs.Numbers.{bytes_of}
use Rattle.job_bytes.proofs.Putting.{Left}
use Rattle.job_bytes.proofs.put_numbers.Given as goal

abbrev pub invariant-loop-i : goal.invariant-loop-i
invariant-loop-i l = Left l.initial.work l.at (bytes_of l.numbers) l.work l.q (bytes_of (drop l.i l.numbers))

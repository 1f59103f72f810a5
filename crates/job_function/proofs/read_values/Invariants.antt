-- The values read so far stand in the table's first rows.
use Rattle.reginfo.specs.Table.{reg_info_of}
use Rattle.job_function.proofs.Values.{Filling}
use Rattle.job_function.proofs.read_values.Given as goal

abbrev pub invariant-loop-v : goal.invariant-loop-v
invariant-loop-v l = Filling (reg_info_of l.t) l.s l.from l.n l.f l.at l.v

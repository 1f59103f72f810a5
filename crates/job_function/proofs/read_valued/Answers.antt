-- The values, then the counts and the setting, which stand apart from them in the table.
use Rattle.job_function.proofs.Counts.{no-values, values-done}
use Rattle.job_function.proofs.read_valued.Goals as goal

pub returns-in-Refused : goal.returns-in-Refused
returns-in-Refused c = no-values _ _ _ _ _ _ _ _ _ c.from.ensures _ _ (rw c.in-Refused.is at c.read_values.ensures)

pub returns-in-At : goal.returns-in-At
returns-in-At c = values-done _ _ _ _ _ _ _ _ _ c.from.ensures c.read_values.array_long c.requires.1 _ (rw c.in-At.is at c.read_values.ensures)

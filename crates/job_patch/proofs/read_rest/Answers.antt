use Rattle.job_patch.proofs.Entering.{counted-refused, counted}
use Rattle.job_patch.proofs.read_rest.Goals as goal

pub read_entries-requires : goal.read_entries-requires
read_entries-requires c = (c.requires, (rw c.in-Is.is at c.read.ensures).onward.1)

pub returns-in-Refused : goal.returns-in-Refused
returns-in-Refused c = counted-refused _ _ _ _ _ _ _ (rw c.in-Refused.is at c.read.ensures)

pub returns-in-Is : goal.returns-in-Is
returns-in-Is c = counted _ _ _ _ _ _ _ _ _ (rw c.in-Is.is at c.read.ensures) c.read_entries.ensures

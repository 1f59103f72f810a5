use Rattle.job_patch.proofs.Freeing.{free-refused, free-counted}
use Rattle.job_patch.proofs.read_free_units.Goals as goal

pub read_free-requires : goal.read_free-requires
read_free-requires c = (c.requires, (rw c.in-Is.is at c.read.ensures).onward.1)

pub returns-in-Refused : goal.returns-in-Refused
returns-in-Refused c = free-refused _ _ _ _ _ (rw c.in-Refused.is at c.read.ensures)

pub returns-in-Is : goal.returns-in-Is
returns-in-Is c = free-counted _ _ _ _ _ _ _ (rw c.in-Is.is at c.read.ensures) c.read_free.ensures

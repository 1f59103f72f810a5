use Rattle.job_patch.proofs.Adding.{entry-move, entry-remat, entry-refused}
use Rattle.job_patch.proofs.read_entry.Goals as goal

pub returns-in-Refused : goal.returns-in-Refused
returns-in-Refused c = let h = rw c.in-Refused.is at c.below.ensures in entry-refused _ _ _ _ _ _ _ h.reads

pub returns-in-0 : goal.returns-in-0
returns-in-0 c =
    let h = rw c.in-Is.is at c.below.ensures in
    entry-move _ _ _ _ _ _ _ _ _ _ _ h.reads h.onward c.in-0.is c.read_move.ensures

pub returns-in_default : goal.returns-in_default
returns-in_default c =
    let h = rw c.in-Is.is at c.below.ensures in
    entry-remat _ _ _ _ _ _ _ _ _ _ _ h.reads h.onward c.in_default.in_default-own.rest.1 c.read_remat.ensures

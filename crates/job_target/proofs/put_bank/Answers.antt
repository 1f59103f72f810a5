-- Three cells of a bank.
use Rattle.job_target.proofs.Table.{bank-put}
use Rattle.job_target.proofs.put_bank.Goals as goal

pub returns : goal.returns
returns c = rw (← c.held.ensures.0, ← c.held-2.ensures.0) (bank-put _ _ _ _ _ _ _ _ c.put.ensures c.put-2.ensures c.put-3.ensures)

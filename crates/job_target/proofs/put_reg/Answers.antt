-- Three cells of a register.
use Rattle.job_target.proofs.Table.{reg-put}
use Rattle.job_target.proofs.put_reg.Goals as goal

pub returns : goal.returns
returns c = reg-put _ _ _ _ _ _ _ _ c.put.ensures c.put-2.ensures c.put-3.ensures

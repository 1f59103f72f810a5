-- The top class, then the stack class.
use Rattle.job_target.proofs.Banks.{top-unknown, stack-unknown}
use Rattle.job_target.proofs.bank_unknown.Goals as goal

pub returns-then-n-from : goal.returns-then-n-from
returns-then-n-from c = top-unknown _ _ _ _ c.from.ensures c.if-n-from.true

pub returns : goal.returns
returns c = stack-unknown _ _ _ _ c.from.ensures c.if-n-from.false _ c.from-2.ensures

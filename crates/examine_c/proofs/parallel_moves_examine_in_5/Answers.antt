-- `parallel_moves_examine_in_5` meets its contract: that of `examine_job_in`, told.
use borrow.Author.Rules.{rules}
use Rattle.examine_c.proofs.parallel_moves_examine_in_5.Goals as goal

pub returns : goal.returns
returns c = record { told_as = rw c.examine_job_in-r.ensures.result_value at c.told.ensures; anything = (tt, tt, tt, tt, tt, tt, tt, tt, tt, tt) }

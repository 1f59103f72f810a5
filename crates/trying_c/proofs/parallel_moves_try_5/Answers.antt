-- Meets its contract, which is that of `try_job`.
use borrow.Author.Rules.{rules}
use Rattle.trying_c.proofs.parallel_moves_try_5.Goals as goal

pub returns : goal.returns
returns c = record { tried_by = rw c.prices_of-p.ensures at c.try_job.ensures.tried_by; anything = (tt, tt, tt, tt, tt, tt, tt, tt, tt, tt, tt, tt) }

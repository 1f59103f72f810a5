use borrow.Author.Rules.{rules}
use Rattle.job.proofs.read_beginning_within.Goals as goal

pub returns : goal.returns
returns c = c.read_beginning_if.ensures

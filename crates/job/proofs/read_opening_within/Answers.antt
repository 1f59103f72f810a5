use borrow.Author.Rules.{rules}
use Rattle.job.proofs.read_opening_within.Goals as goal

pub returns : goal.returns
returns c = c.read_opening_if.ensures

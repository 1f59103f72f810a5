use Rattle.job.proofs.Opening.{opening-refused, opening-read}
use borrow.Author.Rules.{rules}
use Rattle.job.proofs.read_opening_if.Goals as goal

pub returns-in-Refused : goal.returns-in-Refused
returns-in-Refused c = opening-refused _ _ _ _ _ _ _ _ (rw c.in-Refused.is at c.read_beginning_if.ensures)

pub returns-in-At : goal.returns-in-At
returns-in-At c = opening-read _ _ _ _ _ _ _ _ c.between.result (rw c.in-At.is at c.read_beginning_if.ensures) c.between.ensures

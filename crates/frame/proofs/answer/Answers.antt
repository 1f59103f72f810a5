-- What was opened is what the calls begin with.
use Rattle.frame.proofs.answer.Goals as goal

pub run-requires : goal.run-requires
run-requires c = rw c.in-At.is at c.open_all.ensures

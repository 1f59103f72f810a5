-- `set_noted` meets its contract.
use Rattle.visits.proofs.Marks.{noted-stored}
use Rattle.visits.proofs.set_noted.Goals as goal

pub returns : goal.returns
returns c = noted-stored c.args.marks.now c.told-marks

-- `is_noted` meets its contract.
use mathlib.Core.Path.{refl}
use Rattle.visits.specs.Marks.{is_noted}
use Rattle.visits.proofs.is_noted.Goals as goal

pub returns : goal.returns
unfolding is_noted
returns c = refl

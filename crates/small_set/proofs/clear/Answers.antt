-- `clear` meets its contract: no flag is set.
use mathlib.Core.Path.{refl}
use Rattle.small_set.proofs.Laws.{none_in}
use Rattle.small_set.proofs.clear.Goals as goal

pub returns : goal.returns
returns c = (none_in 512, refl)

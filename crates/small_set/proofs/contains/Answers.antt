-- `contains` meets its contract: the flag is the answer.
use mathlib.Core.Path.{refl}
use Rattle.small_set.specs.Set.{set_of}
use Rattle.small_set.proofs.contains.Goals as goal

pub returns : goal.returns
unfolding set_of
returns c = refl

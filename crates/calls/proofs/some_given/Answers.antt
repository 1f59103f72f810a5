-- `some_given` meets its contract.
use mathlib.Core.Path.{refl}
use Rattle.calls.proofs.some_given.Goals as goal

pub returns : goal.returns
returns c = refl

use mathlib.Core.Path.{refl}
use Rattle.scratch.specs.State.{held_at}
use Rattle.scratch.proofs.held_at.Goals as goal

pub returns : goal.returns
unfolding held_at
returns c = refl

use mathlib.Core.Path.{refl}
use Rattle.scratch.specs.State.{made_of}
use Rattle.scratch.proofs.ScratchAllocator.made.Goals as goal

pub returns : goal.returns
unfolding made_of
returns c = refl

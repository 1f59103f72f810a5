-- `made` meets its contract.
use mathlib.Core.Path.{refl}
use Rattle.slots.specs.Stacks.{cache_of}
use Rattle.slots.proofs.made.Goals as goal

pub returns : goal.returns
unfolding cache_of
returns c = refl

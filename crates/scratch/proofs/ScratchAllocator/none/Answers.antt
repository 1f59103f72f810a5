use mathlib.Core.Path.{refl}
use Rattle.scratch.proofs.Packed.{none_kept}
use Rattle.scratch.proofs.ScratchAllocator.none.Goals as goal

pub returns : goal.returns
returns c = none_kept _ _ refl

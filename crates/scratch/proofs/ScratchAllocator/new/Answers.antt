use mathlib.Core.Path.{refl}
use Rattle.scratch.proofs.Packed.{fresh}
use Rattle.scratch.proofs.ScratchAllocator.new.Goals as goal

pub returns : goal.returns
returns c = fresh _ _ c.requires refl

use Rattle.scratch.proofs.Packed.{one_kept}
use Rattle.scratch.proofs.ScratchAllocator.one.Goals as goal

pub returns : goal.returns
returns c = one_kept _ _ _ c.requires (rw c.held_word.ensures.0)

use Rattle.scratch.proofs.Packed.{two-kept}
use Rattle.scratch.proofs.ScratchAllocator.two.Goals as goal

pub held_word-n-requires : goal.held_word-n-requires
held_word-n-requires c = c.requires.0

pub held_word-requires : goal.held_word-requires
held_word-requires c = c.requires.1

pub returns : goal.returns
returns c = two-kept _ _ _ _ c.requires.0 c.requires.1 (rw (c.held_word-n.ensures.0, c.held_word.ensures.0))

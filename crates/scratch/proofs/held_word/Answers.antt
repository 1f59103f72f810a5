use mathlib.Core.Path.{refl}
use Rattle.scratch.specs.State.{word_of}
use native.Mathlib.Omega.{arith}
use Rattle.scratch.proofs.held_word.Goals as goal

pub returns : goal.returns
unfolding word_of
returns c = (refl, omega (arith, c.requires.0, c.requires.1, c.requires.2))

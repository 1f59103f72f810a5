use mathlib.Core.Path.{refl}
use Rattle.frame_calls.proofs.shown.Goals as goal

pub returns : goal.returns
returns c = rw (c.counter-counter.ensures, c.made.ensures) refl

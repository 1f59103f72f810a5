use mathlib.Core.Path.{refl}
use Rattle.frame_calls.proofs.grant.Goals as goal

pub returns : goal.returns
returns c = rw (c.counter.ensures, c.reach.ensures) refl

use Rattle.calls.proofs.Freeing.{Freeing}
use Rattle.calls.proofs.take_free.Given as goal

abbrev pub invariant-loop-u : goal.invariant-loop-u
invariant-loop-u l = Freeing l.units l.free l.least l.u-index l.available

-- `depths_of` meets its contract. The loop's invariant: the depths below z are copied.
use mathlib.Core.Path.{◌≡◌}
use lib.ListN.{length}
use Rattle.slots.proofs.Laws.{Alike}
use Rattle.slots.proofs.depths_of.Given as goal

abbrev pub invariant-loop-z : goal.invariant-loop-z
invariant-loop-z l = (length l.d ≡ 32) × Alike l.d l.cache l.z

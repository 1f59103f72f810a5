-- `begin` meets its contract. Of each stack all of the cache's is left, then none is put back.
use mathlib.Core.Path.{◌≡◌}
use lib.ListN.{length}
use Rattle.slots.proofs.Laws.{Alike, Beginning}
use Rattle.slots.proofs.begin.Given as goal

abbrev pub invariant-loop-z : goal.invariant-loop-z
invariant-loop-z l = (length l.slots ≡ length l.initial.slots) × Alike l.slots l.depths l.z

abbrev pub invariant-loop-z-2 : goal.invariant-loop-z-2
invariant-loop-z-2 l = (length l.slots ≡ length l.initial.slots) × Beginning l.slots l.cache l.z

-- `clear` meets its contract. The loop's invariant: the depths below z are 0, and the stamp stands as it was.
use Prim.Native.Nat.{ℕ, ◌<◌}
use mathlib.Core.Path.{◌≡◌}
use lib.ListN.{get_or, length}
use Rattle.slots.specs.Stacks.{stamp_of}
use Rattle.slots.proofs.clear.Given as goal

abbrev pub invariant-loop-z : goal.invariant-loop-z
invariant-loop-z l = (length l.cache ≡ length l.initial.cache) × ((y : ℕ) → y < l.z → get_or l.cache y 0 ≡ 0) × (stamp_of l.cache ≡ stamp_of l.initial.cache)

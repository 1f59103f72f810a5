-- `free_destination` meets its contract: whether a key is free from the start equals whether one is from here; none is where none is given.
use Prim.Native.Nat.{◌≤◌}
use mathlib.Core.Path.{◌≡◌}
use lib.ListN.{length, drop}
use Rattle.entity.specs.Logic.{any_in}
use Rattle.sparse.specs.Map.{keys_of}
use Rattle.entries.specs.Known.{is_free}
use Rattle.entries.proofs.refusals.free_destination.Given as goal

abbrev pub invariant-loop-j : goal.invariant-loop-j
invariant-loop-j l = (any_in (is_free l.free) (keys_of l.w) ≡ any_in (is_free l.free) (drop l.j (keys_of l.w))) × (l.j ≤ length (keys_of l.w)) × (l.n ≡ length (keys_of l.w))

-- `find` meets its contract: the patch asked for from the first word on is the one still asked for from here on.
use Prim.Native.Nat.{◌-◌, ◌≤◌}
use mathlib.Core.Path.{◌≡◌}
use lib.ListN.{length, drop}
use Rattle.edges.specs.Patches.{patch_numbered}
use Rattle.edges.proofs.find.Given as goal

abbrev pub invariant-loop-k : goal.invariant-loop-k
invariant-loop-k l = (patch_numbered l.patch l.words ≡ patch_numbered (l.patch - l.k) (drop l.at l.words)) × (l.at ≤ length l.words)

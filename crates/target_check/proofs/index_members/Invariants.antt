-- The members before p are in the index, and nothing below it has changed.
use Prim.Native.Nat.{◌+◌, ◌*◌}
use mathlib.Core.Path.{◌≡◌}
use lib.ListN.{length}
use Rattle.reginfo.specs.Table.{IndexedAt}
use Rattle.target_check.specs.Checked.{SameBelow}
use Rattle.target_check.proofs.index_members.Given as goal

abbrev pub invariant-loop-p : goal.invariant-loop-p
invariant-loop-p l = (length l.t ≡ 107520) × SameBelow (74752 + l.c.0 * 512) l.initial.t l.t × IndexedAt l.t l.c.0 l.p

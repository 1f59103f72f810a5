-- `hand_out` meets its contract. The invariant: the words put in, those to come, and what stands past them.
use Prim.Native.Nat.{◌-◌}
use mathlib.Core.Path.{◌≡◌}
use mathlib.Core.List.{◌++◌, map}
use lib.ListN.{length, take, drop}
use Rattle.edit.specs.Word.{word_of}
use Rattle.visits.specs.Marks.{remats_of}
use Rattle.remats.specs.Remats.{last_first}
use Rattle.remats.proofs.hand_out.Given as goal

abbrev pub invariant-loop-at : goal.invariant-loop-at
invariant-loop-at l = (map word_of (last_first (remats_of l.e) l.n) ++ drop l.n l.initial.list ≡ take l.at l.list ++ (map word_of (last_first (remats_of l.e) (l.n - l.at)) ++ drop l.n l.list)) × (length l.list ≡ length l.initial.list)

-- `same_words` meets its contract: whether those from the start are the same equals whether those from here are.
use Prim.Native.Nat.{◌+◌, ◌-◌, ◌≤◌}
use mathlib.Core.Path.{◌≡◌}
use Rattle.entity.specs.Logic.{cells}
use Rattle.examine_rules.specs.Examine.{same_words}
use Rattle.cells.specs.Cells.{words_in}
use Rattle.examine.proofs.same_words.Given as goal

abbrev pub invariant-loop-at : goal.invariant-loop-at
invariant-loop-at l = (same_words (words_in l.b) (words_in l.d) ≡ same_words (cells l.b l.at (l.n + 1 - l.at)) (cells l.d l.at (l.n + 1 - l.at))) × (l.at ≤ l.n + 1) × (l.n ≤ 9)

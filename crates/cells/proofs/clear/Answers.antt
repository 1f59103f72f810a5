-- `clear` meets its contract: every mark is 0, and every unit holds its number.
use mathlib.Core.Path.{◌∙◌}
use native.Mathlib.Omega.{arith}
use Rattle.cells.proofs.Laws.{blank-is}
use Rattle.cells.proofs.clear.Goals as goal

pub returns : goal.returns
returns c = let m = c.clear_marks.ensures in let n = c.number_units.ensures in (blank-is _ (λ x h. n.0 x h ∙ m.1 x h) n.1, λ x h. omega (arith, n.0 x h, m.1 x h))

use mathlib.Core.Path.{sym, ◌∙◌}
use native.Mathlib.Omega.{arith}
use Rattle.target_limits.proofs.Walks.{twice-cell, once-cells}
use Rattle.target_limits.proofs.cells_twice.Goals as goal

pub returns-then-cells_has : goal.returns-then-cells_has
returns-then-cells_has c = sym (twice-cell c.args.t.now c.args.at c.args.n c.loop-i.i (omega arith) (rw c.from.ensures at (sym c.cells_has.ensures ∙ c.if-cells_has.true)))

pub returns : goal.returns
returns c = sym (once-cells c.args.t.now c.args.at c.args.n (λ k h. c.loop-i.invariant k (omega arith)))

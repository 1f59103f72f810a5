use mathlib.Core.Path.{sym, ◌∙◌}
use native.Mathlib.Omega.{arith}
use Rattle.target_limits.proofs.Walks.{has-cell, has-not}
use Rattle.target_limits.proofs.cells_has.Goals as goal

pub returns-then-x-from : goal.returns-then-x-from
returns-then-x-from c = sym (has-cell c.args.x c.args.t.now c.args.at c.args.n c.loop-i.i (omega arith) (c.if-x-from.true ∙ c.from.ensures))

pub returns : goal.returns
returns c = sym (has-not c.args.x c.args.t.now c.args.at c.args.n (λ k h. c.loop-i.invariant k (omega arith)))

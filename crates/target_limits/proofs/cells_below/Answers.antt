use mathlib.Core.Path.{sym}
use native.Mathlib.Omega.{arith}
use borrow.Author.Tests.{lt-ltb, le-ltb}
use lib.Dec.{ltb}
use Rattle.target_limits.proofs.Walks.{other-cell, all-cells}
use Rattle.target_limits.proofs.cells_below.Goals as goal

pub returns-then-bound-from : goal.returns-then-bound-from
returns-then-bound-from c = sym (other-cell (λ x. ltb x c.args.bound) c.args.t.now c.args.at c.args.n c.loop-i.i (omega arith) (le-ltb _ _ (omega arith)))

pub returns : goal.returns
returns c = sym (all-cells (λ x. ltb x c.args.bound) c.args.t.now c.args.at c.args.n (λ k h. lt-ltb _ _ (c.loop-i.invariant k (omega arith))))

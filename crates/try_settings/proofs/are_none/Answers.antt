-- `are_none` meets its contract.
use native.Mathlib.Omega.{arith}
use borrow.Author.Tests.{eq-eqb, ne_eqb}
use Rattle.try_settings.proofs.are_none.Goals as goal

pub returns-then-a-gt0 : goal.returns-then-a-gt0
returns-then-a-gt0 c = rw (ne_eqb c.args.a 0 (λ e. omega (arith, c.if-a-gt0.true)))

pub returns : goal.returns
returns c = rw (eq-eqb c.args.a 0 (omega (arith, c.if-a-gt0.false)))

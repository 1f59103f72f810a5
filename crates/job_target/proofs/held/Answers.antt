-- A number below 65535 is its own.
use native.Mathlib.Omega.{arith}
use borrow.Author.Tests.{lt-ltb, le-ltb}
use Rattle.job_target.proofs.held.Goals as goal

pub returns-then-n-lt65535 : goal.returns-then-n-lt65535
returns-then-n-lt65535 c = (rw (lt-ltb c.args.n 65535 c.if-n-lt65535.true), omega arith)

pub returns : goal.returns
returns c = (rw (le-ltb c.args.n 65535 c.if-n-lt65535.false), omega arith)

-- `writer_of` meets its contract: what the look-up finds, unless it is a rebuild.
use mathlib.Core.Path.{ap, ◌∙◌}
use mathlib.Core.Option.{some}
use native.Mathlib.Omega.{arith}
use Rattle.entries.proofs.Writers.{by-found}
use Rattle.visits.specs.Writers.{kept_only}
use Rattle.visits.proofs.Writers.{kept-some, kept-none}
use Rattle.visits.proofs.writer_of.Goals as goal

pub returns-in_default : goal.returns-in_default
unfolding kept_only
returns-in_default c = by-found kept_only c.get.ensures c.in_default.is

pub returns-then-m-lt128 : goal.returns-then-m-lt128
returns-then-m-lt128 c =
    ap some c.from-m.ensures ∙ kept-some c.in-Some.x (omega arith) ∙ by-found kept_only c.get.ensures c.in-Some.is

pub returns : goal.returns
returns c =
    kept-none c.in-Some.x (omega arith) ∙ by-found kept_only c.get.ensures c.in-Some.is

-- `count` meets its contract.
use native.Mathlib.Omega.{arith}
use Rattle.trying.proofs.Tally.{refusal-counted, counted-refused}
use Rattle.trying.proofs.count.Goals as goal

pub returns-in-Refused : goal.returns-in-Refused
returns-in-Refused c =
    let s = c in
    counted-refused s.args.p s.args.r _ s.args.seed s.args.list.now _ _ c.in-Refused.is
    (refusal-counted s.args.p _ s.args.tally.now _ c.add.ensures.0 c.add.ensures.1 (omega arith))

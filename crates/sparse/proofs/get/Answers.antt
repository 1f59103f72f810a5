-- `get` meets its contract: the value stands beside the key.
use mathlib.Core.Path.{sym}
use native.Mathlib.Omega.{arith}
use Rattle.sparse.proofs.Laws.{got-none, got-some}
use Rattle.sparse.proofs.get.Goals as goal

pub returns-then-n-i : goal.returns-then-n-i
returns-then-n-i c =
    let s = c in
    sym (got-none s.args.t.now s.args.u.0 s.requires.0 c.place_of-i.result c.place_of-i.ensures (omega arith))

pub returns : goal.returns
returns c =
    let s = c in
    sym (got-some s.args.t.now s.args.u.0 s.requires.0 c.place_of-i.result c.place_of-i.ensures (omega arith))

-- `insert` meets its contract: the new key goes to the end.
use native.Mathlib.Omega.{arith}
use Rattle.sparse.proofs.Laws.{length-keys, inserted}
use Rattle.sparse.proofs.insert.Goals as goal

pub bounds-t-n : goal.bounds-t-n
bounds-t-n c = omega (arith, length-keys c.args.t.now)

pub returns : goal.returns
returns c =
    let s = c in
    let t = s.args.t.now in
    let n = c.from-n in
    inserted t c.told-t s.args.u.0 s.args.v n.result s.requires.0 s.requires.3 n.ensures s.requires.1 (omega (arith, length-keys t))

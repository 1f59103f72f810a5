-- `shorten` meets its contract: what stands behind the count is not read.
use native.Mathlib.Omega.{arith}
use Rattle.sparse.proofs.Laws.{length-keys, shortened}
use Rattle.sparse.proofs.shorten.Goals as goal

pub overflow_cast-t : goal.overflow_cast-t
overflow_cast-t c = let s = c in omega (arith, s.requires.1, length-keys s.args.t.now, s.requires.0.few)

pub returns : goal.returns
returns c =
    let s = c in
    let t = s.args.t.now in
    shortened t c.told-t s.args.n s.requires.0 (omega (arith, s.requires.1, length-keys t))

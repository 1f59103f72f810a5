-- `remove` meets its contract: one flag is cleared.
use native.Mathlib.Omega.{arith}
use lib.ListN.{length-set}
use Rattle.small_set.proofs.Laws.{store-false}
use Rattle.small_set.proofs.remove.Goals as goal

pub returns : goal.returns
returns c =
    let a = c.args in
    (store-false a.s.now a.u.0 (omega arith), simp length-set c.told-s)

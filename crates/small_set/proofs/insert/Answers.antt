-- `insert` meets its contract: one flag is set.
use native.Mathlib.Omega.{arith}
use lib.ListN.{length-set}
use Rattle.small_set.proofs.Laws.{store_true}
use Rattle.small_set.proofs.insert.Goals as goal

pub returns : goal.returns
returns c =
    let a = c.args in
    (store_true a.s.now a.u.0 (omega arith), simp length-set c.told-s)

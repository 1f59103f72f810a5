-- `clear` meets its contract.
use Prim.Native.Nat.{ℕ}
use mathlib.Core.Path.{ap}
use native.Mathlib.Omega.{arith}
use lib.ListN.{set}
use lib.Seq.{get_or-set_same}
use Rattle.carried.specs.Carried.{rows_of}
use Rattle.carried.proofs.clear.Goals as goal

pub returns : goal.returns
unfolding rows_of
returns c =
    let z = get_or-set_same c.args.c.now 2048 0 0 (rw c.told-c (omega arith)) in
    (z, λ m. ap (λ (n : ℕ). rows_of (set c.args.c.now 2048 0) 0 n m) z)

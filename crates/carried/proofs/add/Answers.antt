-- `add` meets its contract: a row behind the others.
use Prim.Native.Nat.{ℕ, ◌+◌, ◌*◌}
use mathlib.Core.Path.{◌≡◌, ap, ◌∙◌}
use native.Mathlib.Omega.{arith}
use lib.ListN.{length, set, length-set}
use lib.Seq.{get_or-set_same}
use Rattle.carried.specs.Carried.{count_of, rows_of}
use Rattle.carried.proofs.Laws.{row-added}
use Rattle.carried.proofs.add.Goals as goal

pub returns : goal.returns
returns c =
    let a = c.args in
    let n = c.from-n.result in
    let e : length a.c.now ≡ 2049 = c.told-c in
    let q : n ≡ count_of a.c.now = c.from-n.ensures in
    let u = set (set (set a.c.now (n * 2) a.m) (1 + n * 2) a.v.0) 2048 (n + 1) in
    let z : count_of u ≡ n + 1 = get_or-set_same (set (set a.c.now (n * 2) a.m) (1 + n * 2) a.v.0) 2048 (n + 1) 0 (simp length-set (omega arith)) in
    (z ∙ ap (λ (k : ℕ). k + 1) q, λ x. ap (λ (k : ℕ). rows_of u 0 k x) z ∙ row-added a.c.now n a.m a.v.0 x e (omega arith) ∙ rw q)

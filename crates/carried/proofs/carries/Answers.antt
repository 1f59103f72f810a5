use Prim.Native.Nat.{ℕ, ◌+◌, ◌-◌}
use mathlib.Core.Path.{◌≡◌, sym, ap, ◌∙◌}
use native.Mathlib.Omega.{arith}
use Rattle.entity.specs.Logic.{has}
use Rattle.carried.specs.Carried.{rows_of}
use Rattle.carried.proofs.Laws.{has-row}
use Rattle.carried.proofs.carries.Goals as goal

pub returns-then-row_is : goal.returns-then-row_is
returns-then-row_is c =
    let l = c.loop-i in
    let a = c.args in
    sym (ap (λ (n : ℕ). has a.v.0 (rows_of a.c.now 0 n a.m)) (sym c.len-n.ensures) ∙ l.invariant
    ∙ has-row a.c.now l.i (c.len-n.result - l.i) a.m a.v.0 (omega arith) ∙ rw (← c.row_is.ensures, c.if-row_is.true))

pub loop-i-preserved : goal.loop-i-preserved
loop-i-preserved c =
    let l = c.loop-i in
    let a = c.args in
    let n = c.len-n.result in
    l.invariant ∙ has-row a.c.now l.i (n - l.i) a.m a.v.0 (omega arith) ∙ rw (← c.row_is.ensures, c.if-row_is.false)
    (ap (λ (k : ℕ). has a.v.0 (rows_of a.c.now (l.i + 1) k a.m)) (omega arith))

pub returns : goal.returns
unfolding rows_of has
returns c =
    let l = c.loop-i in
    let a = c.args in
    let n = c.len-n.result in
    let z : n - l.i ≡ 0 = omega arith in
    sym (ap (λ (k : ℕ). has a.v.0 (rows_of a.c.now 0 k a.m)) (sym c.len-n.ensures) ∙ l.invariant ∙ ap (λ (k : ℕ). has a.v.0 (rows_of a.c.now l.i k a.m)) z)

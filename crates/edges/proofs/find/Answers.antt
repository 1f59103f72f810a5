use Prim.Native.Nat.{◌+◌, ◌-◌}
use mathlib.Core.Path.{◌≡◌, sym, ◌∙◌}
use native.Mathlib.Omega.{arith}
use lib.ListN.{drop}
use Rattle.edges.specs.Patches.{headed}
use Rattle.edges.proofs.Laws.{head-fits, none-there, here, onward, found_none, found_at, is-count, no-count}
use Rattle.edges.proofs.find.Goals as goal

pub returns-in_err-count : goal.returns-in_err-count
returns-in_err-count c =
    let s = c.args in
    let l = c.loop-k in
    let h = no-count _ (sym c.count_at.ensures ∙ c.in_err-count.was) in
    rw c.from_residual.ensures (found_none s.words.now _ (l.invariant.0 ∙ none-there (s.patch - l.k) (drop l.at s.words.now) h))

pub returns-then-left-eq1 : goal.returns-then-left-eq1
returns-then-left-eq1 c =
    let s = c.args in
    let l = c.loop-k in
    let n = c.in_ok-count.count in
    let h = is-count (headed (drop l.at s.words.now)) n (sym c.count_at.ensures ∙ c.in_ok-count.was) in
    found_at s.words.now _ l.at n h (l.invariant.0 ∙ here (s.patch - l.k) s.words.now l.at n c.if-left-eq1.true h)

pub overflow_add-at : goal.overflow_add-at
overflow_add-at c =
    let s = c.args in
    let l = c.loop-k in
    let n = c.in_ok-count.count in
    let h = is-count (headed (drop l.at s.words.now)) n (sym c.count_at.ensures ∙ c.in_ok-count.was) in
    omega (arith, (head-fits s.words.now l.at n h).0)

pub overflow_add-at-in-loop-k : goal.overflow_add-at-in-loop-k
overflow_add-at-in-loop-k c =
    let s = c.args in
    let l = c.loop-k in
    let n = c.in_ok-count.count in
    let h = is-count (headed (drop l.at s.words.now)) n (sym c.count_at.ensures ∙ c.in_ok-count.was) in
    omega (arith, (head-fits s.words.now l.at n h).1)

pub loop-k-preserved : goal.loop-k-preserved
loop-k-preserved c =
    let s = c.args in
    let l = c.loop-k in
    let n = c.in_ok-count.count in
    let h = is-count (headed (drop l.at s.words.now)) n (sym c.count_at.ensures ∙ c.in_ok-count.was) in
    let less : s.patch - l.k - 1 ≡ s.patch - (l.k + 1) = omega arith in
    (l.invariant.0 ∙ rw less at (onward (s.patch - l.k) s.words.now l.at n (omega arith) c.if-left-eq1.false h), omega (arith, (head-fits s.words.now l.at n h).1))

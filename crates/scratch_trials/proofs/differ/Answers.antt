use Prim.Native.Nat.{ℕ}
use mathlib.Core.List.{List}
use mathlib.Core.Path.{sym, ap, ◌∙◌}
use native.Mathlib.Omega.{arith}
use Rattle.scratch_trials.specs.Cells.{differ_from}
use Rattle.scratch_trials.proofs.Words.{same_word, other_word, all_words}
use Rattle.scratch_trials.proofs.differ.Goals as goal

pub returns-then-list-i : goal.returns-then-list-i
returns-then-list-i c =
    let l = c.loop-i in
    let h = c.hand_out in
    let a = c.args in
    sym (ap (λ (x : List ℕ). differ_from 9 0 x a.want) (sym h.ensures.1) ∙ l.invariant ∙ other_word h.new.list a.want l.i (omega arith) c.if-list-i.true)

pub loop-i-preserved : goal.loop-i-preserved
loop-i-preserved c =
    let l = c.loop-i in
    let h = c.hand_out in
    let a = c.args in
    l.invariant ∙ same_word h.new.list a.want l.i (omega arith) c.if-list-i.false

pub returns : goal.returns
returns c =
    let l = c.loop-i in
    let h = c.hand_out in
    let a = c.args in
    sym (ap (λ (x : List ℕ). differ_from 9 0 x a.want) (sym h.ensures.1) ∙ l.invariant ∙ all_words h.new.list a.want l.i (omega arith))

use Prim.Native.Nat.{ℕ, ◌+◌, ◌-◌}
use mathlib.Core.Path.{◌≡◌, refl, sym, ap, ◌∙◌}
use mathlib.Core.List.{◌++◌}
use native.Mathlib.Omega.{arith}
use lib.ListN.{take, drop, length-set, take-append-drop}
use Rattle.edit.specs.Buffer.{count_of, newest_first}
use Rattle.edit.proofs.Laws.{handed}
use Rattle.edit.proofs.hand_out.Goals as goal

pub loop-i-preserved : goal.loop-i-preserved
loop-i-preserved c =
    let l = c.loop-i in
    let t = c.args.e.now in
    let n = count_of t in
    let less : n - l.i - 1 ≡ n - (l.i + 1) = omega arith in
    (l.invariant.0 ∙ rw less at (handed t l.list n l.i (n - l.i) (omega arith) (omega arith) (omega arith)), simp length-set l.invariant.1)

pub returns : goal.returns
unfolding newest_first
returns c =
    let l = c.loop-i in
    let t = c.args.e.now in
    let full : l.i ≡ count_of t = omega arith in
    let z : count_of t - l.i ≡ 0 = omega arith in
    (refl, sym (l.invariant.0 ∙ ap (λ (m : ℕ). take l.i l.list ++ (newest_first t m ++ drop (count_of t) l.list)) z ∙ rw full (take-append-drop (count_of t) l.list)))

use Prim.Native.Nat.{◌+◌, ◌-◌, ◌%◌, ◌<◌}
use native.Mathlib.Omega.{arith}
use native.Mathlib.Nat.{mod-lt}
use mathlib.Core.Path.{◌≡◌}
use Rattle.trying.proofs.Drawing.{going_start, going_step, going_end}
use Rattle.trying.proofs.draw_patch.Goals as goal

pub loop-i-init : goal.loop-i-init
loop-i-init c =
    let s = c in
    let n = 1 + c.draw-s.result % 16 in
    let z : n - 0 ≡ n = omega arith in
    rw z (going_start _ _ _ _ _ (let h : c.draw-s.result % 16 < 16 = mod-lt c.draw-s.result (omega arith) in omega arith) s.requires.2)

pub loop-i-preserved : goal.loop-i-preserved
loop-i-preserved c =
    let l = c.loop-i in
    let n = 1 + c.draw-s.result % 16 in
    let e : n - (l.i + 1) ≡ n - l.i - 1 = omega arith in
    rw e (going_step _ _ l.numbers l.s l.i (n - l.i) _ l.invariant (omega (arith, c.loop-i-test.true)) _ _ c.draw_move-s.ensures)

pub returns : goal.returns
returns c =
    let s = c in
    let l = c.loop-i in
    let n = 1 + c.draw-s.result % 16 in
    let z : n ≡ l.i = omega (arith, c.loop-i-test.false, l.auto.i-end) in
    rw z (going_end _ _ l.numbers s.args.numbers.now s.args.seed l.s l.i (n - l.i) _ c.draw-s.ensures l.invariant (omega (arith, z)) s.requires.2)

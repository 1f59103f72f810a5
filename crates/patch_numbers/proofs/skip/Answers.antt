use Prim.Native.Nat.{◌+◌, ◌-◌}
use mathlib.Core.Path.{◌≡◌}
use native.Mathlib.Omega.{arith}
use Rattle.patch_numbers.proofs.Steps.{skip-refused, skip_step, skip-end}
use Rattle.patch_numbers.proofs.skip.Goals as goal

pub returns-in-Refused : goal.returns-in-Refused
returns-in-Refused c = let l = c.loop-done in let a = c.args in skip-refused a.s.now a.at a.n l.q (c.args.n - l._done) l.invariant _ (omega arith) (rw c.in-Refused.is at c.read.ensures)

pub loop-done-preserved : goal.loop-done-preserved
loop-done-preserved c =
    let l = c.loop-done in
    let a = c.args in
    let e : c.args.n - (l._done + 1) ≡ c.args.n - l._done - 1 = omega arith in
    rw e (skip_step a.s.now a.at a.n l.q (c.args.n - l._done) l.invariant _ _ (omega arith) (rw c.in-Is.is at c.read.ensures))

pub returns : goal.returns
returns c = let l = c.loop-done in let a = c.args in skip-end a.s.now a.at a.n l.q (c.args.n - l._done) l.invariant (omega arith)

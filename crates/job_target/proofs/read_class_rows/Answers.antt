use native.Mathlib.Omega.{arith}
use Prim.Native.Nat.{◌+◌, ◌-◌}
use mathlib.Core.Path.{◌≡◌}
use Rattle.job_target.proofs.Classes.{classes-start, classes-step, classes-refused, classes-end}
use Rattle.job_target.proofs.read_class_rows.Goals as goal

pub loop-c-init : goal.loop-c-init
loop-c-init c = let e : c.args.n - 0 ≡ c.args.n = omega arith in rw e (classes-start _ _ _ _ _ c.requires.0 _)

pub returns-in-Refused : goal.returns-in-Refused
returns-in-Refused c = let l = c.loop-c in classes-refused _ _ _ _ _ c.requires.0 _ _ l.at l.c (c.args.n - l.c) l.total l.invariant _ _ _ _ (omega arith) (rw c.in-Refused.is at c.read_class.ensures)

pub loop-c-preserved : goal.loop-c-preserved
loop-c-preserved c =
    let l = c.loop-c in
    let e : c.args.n - (l.c + 1) ≡ c.args.n - l.c - 1 = omega arith in
    rw e (classes-step _ _ _ _ _ c.requires.0 _ _ l.at l.c (c.args.n - l.c) l.total l.invariant _ _ _ (omega arith) (rw c.in-At.is at c.read_class.ensures) c.order_count-total.ensures)

pub returns : goal.returns
returns c = let l = c.loop-c in classes-end _ _ _ _ _ c.requires.0 _ _ l.at l.c (c.args.n - l.c) l.total l.invariant (omega arith)

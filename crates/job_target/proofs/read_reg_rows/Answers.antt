use native.Mathlib.Omega.{arith}
use Prim.Native.Nat.{◌+◌, ◌-◌}
use mathlib.Core.Path.{◌≡◌}
use Rattle.job_target.proofs.Regs.{regs-start, regs-step, regs-refused, regs-end}
use Rattle.job_target.proofs.read_reg_rows.Goals as goal

pub loop-r-init : goal.loop-r-init
loop-r-init c = let e : c.args.n - 0 ≡ c.args.n = omega arith in rw e (regs-start _ _ _ _ _ c.requires.0 _)

pub returns-in-Refused : goal.returns-in-Refused
returns-in-Refused c = let l = c.loop-r in regs-refused _ _ _ _ _ c.requires.0 _ _ l.at l.r (c.args.n - l.r) l.invariant _ _ _ _ (omega arith) (rw c.in-Refused.is at c.read_reg.ensures)

pub loop-r-preserved : goal.loop-r-preserved
loop-r-preserved c =
    let l = c.loop-r in
    let e : c.args.n - (l.r + 1) ≡ c.args.n - l.r - 1 = omega arith in
    rw e (regs-step _ _ _ _ _ c.requires.0 _ _ l.at l.r (c.args.n - l.r) l.invariant _ _ (omega arith) (rw c.in-At.is at c.read_reg.ensures))

pub returns : goal.returns
returns c = let l = c.loop-r in regs-end _ _ _ _ _ c.requires.0 _ _ l.at l.r (c.args.n - l.r) l.invariant (omega arith)

use native.Mathlib.Omega.{arith}
use Prim.Native.Nat.{◌+◌, ◌-◌}
use mathlib.Core.Path.{◌≡◌}
use Rattle.job_target.proofs.Banks.{banks-start, banks-step, banks-refused, banks-end}
use Rattle.job_target.proofs.read_bank_rows.Goals as goal

pub loop-b-init : goal.loop-b-init
loop-b-init c = let e : c.args.n - 0 ≡ c.args.n = omega arith in rw e (banks-start _ _ _ c.requires _)

pub returns-in-Refused : goal.returns-in-Refused
returns-in-Refused c = let l = c.loop-b in banks-refused _ _ _ c.requires _ _ l.at l.b (c.args.n - l.b) l.invariant _ _ _ _ (omega arith) (rw c.in-Refused.is at c.read_bank.ensures)

pub loop-b-preserved : goal.loop-b-preserved
loop-b-preserved c =
    let l = c.loop-b in
    let e : c.args.n - (l.b + 1) ≡ c.args.n - l.b - 1 = omega arith in
    rw e (banks-step _ _ _ c.requires _ _ l.at l.b (c.args.n - l.b) l.invariant _ _ (omega arith) (rw c.in-At.is at c.read_bank.ensures))

pub returns : goal.returns
returns c = let l = c.loop-b in banks-end _ _ _ c.requires _ _ l.at l.b (c.args.n - l.b) l.invariant (omega arith)

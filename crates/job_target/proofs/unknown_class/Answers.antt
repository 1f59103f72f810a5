use native.Mathlib.Omega.{arith}
use Prim.Native.Nat.{◌+◌, ◌-◌}
use mathlib.Core.Path.{◌≡◌}
use Rattle.job_target.proofs.Banks.{search-found, search-on, search-end}
use Rattle.job_target.proofs.unknown_class.Goals as goal

pub returns-then-bank_unknown : goal.returns-then-bank_unknown
returns-then-bank_unknown c = let l = c.loop-b in search-found _ _ _ l.b (c.args.banks - l.b) l.invariant _ (omega arith) c.bank_unknown.ensures c.if-bank_unknown.true

pub loop-b-preserved : goal.loop-b-preserved
loop-b-preserved c =
    let l = c.loop-b in
    let e : c.args.banks - (l.b + 1) ≡ c.args.banks - l.b - 1 = omega arith in
    rw e (search-on _ _ _ l.b (c.args.banks - l.b) l.invariant _ (omega arith) c.bank_unknown.ensures c.if-bank_unknown.false)

pub returns : goal.returns
returns c = let l = c.loop-b in search-end _ _ _ l.b (c.args.banks - l.b) l.invariant (omega arith)

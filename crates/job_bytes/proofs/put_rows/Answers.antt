use Prim.Native.Nat.{◌+◌, ◌-◌}
use mathlib.Core.Path.{◌≡◌}
use native.Mathlib.Omega.{arith}
use Rattle.entity.specs.Logic.{indices}
use Rattle.job_numbers.specs.Numbers.{each_of}
use Rattle.job_bytes.proofs.Putting.{none_left, one-over, one-put}
use Rattle.job_bytes.proofs.Parts.{each-more, each-none}
use Rattle.job_bytes.proofs.put_rows.Goals as goal

pub returns-in_err-q : goal.returns-in_err-q
returns-in_err-q g c row h =
    let l = c.loop-i in
    rw c.from_residual.ensures (one-over (l.invariant row h) (each_of row (indices (l.i + 1) (c.args.n - l.i - 1))) (each-more row l.i (c.args.n - l.i) (omega arith)) (h _ _ _ _ _ (omega arith) c.put.ensures) c.in_err-q.was)

pub loop-i-preserved : goal.loop-i-preserved
loop-i-preserved g c row h =
    let l = c.loop-i in
    let e : c.args.n - (l.i + 1) ≡ c.args.n - l.i - 1 = omega arith in
    rw e (one-put (l.invariant row h) (each_of row (indices (l.i + 1) (c.args.n - l.i - 1))) (each-more row l.i (c.args.n - l.i) (omega arith)) (h _ _ _ _ _ (omega arith) c.put.ensures) c.in_ok-q.was)

pub returns : goal.returns
returns g c row h = let l = c.loop-i in none_left (l.invariant row h) (each-none row l.i (c.args.n - l.i) (omega arith))

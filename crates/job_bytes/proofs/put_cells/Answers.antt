use Prim.Native.Nat.{◌+◌, ◌-◌}
use mathlib.Core.Path.{◌≡◌}
use native.Mathlib.Omega.{arith}
use Rattle.entity.specs.Logic.{cells}
use Rattle.job_numbers.specs.Numbers.{bytes_of}
use Rattle.job_bytes.proofs.Putting.{none_left, one-over, one-put}
use Rattle.job_bytes.proofs.Parts.{cells-more, cells-none}
use Rattle.job_bytes.proofs.put_cells.Goals as goal

pub returns-in_err-q : goal.returns-in_err-q
returns-in_err-q c = let l = c.loop-i in rw c.from_residual.ensures (one-over l.invariant (bytes_of (cells c.args.t.now (c.args.start + l.i + 1) (c.args.n - l.i - 1))) (cells-more c.args.t.now (c.args.start + l.i) (c.args.n - l.i) (omega arith)) c.put_cell.ensures c.in_err-q.was)

pub loop-i-preserved : goal.loop-i-preserved
loop-i-preserved c =
    let l = c.loop-i in
    let e : c.args.n - (l.i + 1) ≡ c.args.n - l.i - 1 = omega arith in
    let z : c.args.start + (l.i + 1) ≡ c.args.start + l.i + 1 = omega arith in
    rw (e, z) (one-put l.invariant (bytes_of (cells c.args.t.now (c.args.start + l.i + 1) (c.args.n - l.i - 1))) (cells-more c.args.t.now (c.args.start + l.i) (c.args.n - l.i) (omega arith)) c.put_cell.ensures c.in_ok-q.was)

pub returns : goal.returns
returns c = let l = c.loop-i in none_left l.invariant (cells-none c.args.t.now (c.args.start + l.i) (c.args.n - l.i) (omega arith))

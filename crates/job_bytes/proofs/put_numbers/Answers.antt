use Prim.Native.Nat.{◌+◌}
use native.Mathlib.Omega.{arith}
use lib.ListN.{drop}
use Rattle.job_numbers.specs.Numbers.{bytes_of}
use Rattle.job_bytes.proofs.Putting.{none_left, one-over, one-put}
use Rattle.job_bytes.proofs.Parts.{numbers_more, numbers-none}
use Rattle.job_bytes.proofs.put_numbers.Goals as goal

pub returns-in_err-q : goal.returns-in_err-q
returns-in_err-q c = let l = c.loop-i in rw c.from_residual.ensures (one-over l.invariant (bytes_of (drop (l.i + 1) c.args.numbers.now)) (numbers_more c.args.numbers.now l.i (omega arith)) c.put_number.ensures c.in_err-q.was)

pub loop-i-preserved : goal.loop-i-preserved
loop-i-preserved c = let l = c.loop-i in one-put l.invariant (bytes_of (drop (l.i + 1) c.args.numbers.now)) (numbers_more c.args.numbers.now l.i (omega arith)) c.put_number.ensures c.in_ok-q.was

pub returns : goal.returns
returns c = let l = c.loop-i in none_left l.invariant (numbers-none c.args.numbers.now l.i (omega arith))

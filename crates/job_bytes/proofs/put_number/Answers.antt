-- `put_number` meets its contract: a number below 128 is its one group.
use native.Mathlib.Omega.{arith}
use Rattle.job_bytes.proofs.Putting.{one-group}
use Rattle.job_bytes.proofs.put_number.Goals as goal

pub returns-then-n-lt128 : goal.returns-then-n-lt128
returns-then-n-lt128 c =
    let args = c.args in
    let if1 = c.if-n-lt128 in
    let put_byte = c.put_byte in
    rw (one-group 5 args.n if1.true (omega arith)) put_byte.ensures

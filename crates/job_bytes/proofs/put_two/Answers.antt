-- `put_two` meets its contract: one number, then the other.
use Rattle.number.specs.Number.{encoded}
use Rattle.job_bytes.proofs.Putting.{first-over, then-puts}
use Rattle.job_bytes.proofs.Parts.{two_bytes}
use Rattle.job_bytes.proofs.put_two.Goals as goal

pub returns-in_err-next : goal.returns-in_err-next
returns-in_err-next c =
    let args = c.args in
    let put-cell = c.put_cell in
    rw c.from_residual.ensures (first-over (encoded args.b) (two_bytes args.a args.b) put-cell.ensures c.in_err-next.was)

pub returns : goal.returns
returns c =
    let args = c.args in
    let put-cell = c.put_cell in
    let put-cell2 = c.put_cell-2 in
    then-puts (encoded args.b) (two_bytes args.a args.b) put-cell.ensures c.in_ok-next.was put-cell2.ensures

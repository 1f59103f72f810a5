-- `put_bank` meets its contract: three cells.
use Prim.Native.Nat.{◌+◌, ◌*◌}
use lib.ListN.{get_or}
use Rattle.number.specs.Number.{encoded}
use Rattle.job_bytes.proofs.Putting.{first-over, then-puts}
use Rattle.job_bytes.proofs.Parts.{bank-bytes}
use Rattle.job_bytes.proofs.put_bank.Goals as goal

pub returns-in_err-next : goal.returns-in_err-next
returns-in_err-next c =
    let args = c.args in
    let put_two = c.put_two in
    rw c.from_residual.ensures (first-over (encoded (get_or args.t.now (8706 + args.b * 4) 0)) (bank-bytes args.t.now args.b) put_two.ensures c.in_err-next.was)

pub returns : goal.returns
returns c =
    let args = c.args in
    let put_two = c.put_two in
    let put-cell = c.put_cell in
    then-puts (encoded (get_or args.t.now (8706 + args.b * 4) 0)) (bank-bytes args.t.now args.b) put_two.ensures c.in_ok-next.was put-cell.ensures

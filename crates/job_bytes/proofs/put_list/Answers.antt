-- `put_list` meets its contract: the count, then the cells.
use Rattle.entity.specs.Logic.{cells}
use Rattle.job_numbers.specs.Numbers.{bytes_of}
use Rattle.job_bytes.proofs.Putting.{first-over, then-puts}
use Rattle.job_bytes.proofs.Parts.{list-bytes}
use Rattle.job_bytes.proofs.put_list.Goals as goal

pub returns-in_err-next : goal.returns-in_err-next
returns-in_err-next c =
    let args = c.args in
    let put-cell = c.put_cell in
    rw c.from_residual.ensures (first-over (bytes_of (cells args.t.now args.start args.n)) (list-bytes args.t.now args.start args.n) put-cell.ensures c.in_err-next.was)

pub returns : goal.returns
returns c =
    let args = c.args in
    let put-cell = c.put_cell in
    let put-cells = c.put_cells in
    then-puts (bytes_of (cells args.t.now args.start args.n)) (list-bytes args.t.now args.start args.n) put-cell.ensures c.in_ok-next.was put-cells.ensures

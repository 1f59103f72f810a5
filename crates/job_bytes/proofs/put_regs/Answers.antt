-- `put_regs` meets its contract: the count, then the registers.
use lib.ListN.{get_or}
use Rattle.job_numbers.specs.Numbers.{reg_numbers, bytes_of}
use Rattle.reginfo.specs.Table.{reg_at}
use Rattle.job_bytes.proofs.Putting.{first-over, then-puts}
use Rattle.job_bytes.proofs.Parts.{rows, regs-bytes}
use borrow.Author.Rules.{rules}
use Rattle.job_bytes.proofs.put_regs.Goals as goal

pub returns-in_err-next : goal.returns-in_err-next
returns-in_err-next c =
    let args = c.args in
    let put-cell = c.put_cell in
    rw c.from_residual.ensures (first-over (rows reg_numbers (reg_at args.t.now) (get_or args.t.now 8738 0)) (regs-bytes args.t.now) put-cell.ensures c.in_err-next.was)

pub returns : goal.returns
returns c =
    let args = c.args in
    let put-cell = c.put_cell in
    then-puts (rows reg_numbers (reg_at args.t.now) (get_or args.t.now 8738 0)) (regs-bytes args.t.now) put-cell.ensures c.in_ok-next.was (c.put_rows.ensures (λ i. bytes_of (reg_numbers (reg_at args.t.now i))) (λ w q i r w′ h p. search rules))

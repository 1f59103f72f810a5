-- `put_reg` meets its contract: two cells, then the units.
use Prim.Native.Nat.{◌+◌, ◌*◌}
use native.Mathlib.Omega.{arith}
use lib.ListN.{get_or}
use Rattle.entity.specs.Logic.{cells}
use Rattle.job_numbers.specs.Numbers.{counted, bytes_of}
use Rattle.job_bytes.proofs.Putting.{first-over, then-puts}
use Rattle.job_bytes.proofs.Parts.{reg-bytes}
use Rattle.job_bytes.proofs.put_reg.Goals as goal

pub put_list-requires : goal.put_list-requires
put_list-requires c =
    let pre = c.requires in
    omega (arith, pre.0, pre.1)

pub returns-in_err-next : goal.returns-in_err-next
returns-in_err-next c =
    let args = c.args in
    let put_two = c.put_two in
    rw c.from_residual.ensures (first-over (bytes_of (counted (cells args.t.now (8 + args.r * 16) (get_or args.t.now (2 + args.r * 16) 0)))) (reg-bytes args.t.now args.r) put_two.ensures c.in_err-next.was)

pub returns : goal.returns
returns c =
    let args = c.args in
    let put_two = c.put_two in
    let put-list = c.put_list in
    then-puts (bytes_of (counted (cells args.t.now (8 + args.r * 16) (get_or args.t.now (2 + args.r * 16) 0)))) (reg-bytes args.t.now args.r) put_two.ensures c.in_ok-next.was put-list.ensures

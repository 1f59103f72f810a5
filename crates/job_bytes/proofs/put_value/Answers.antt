-- `put_value` meets its contract: two cells, and a class unless there is none.
use Prim.Native.Nat.{◌+◌, ◌*◌}
use mathlib.Core.List.{[], ◌∷◌}
use lib.Dec.{eqb}
use lib.ListN.{get_or}
use Rattle.number.specs.Number.{encoded}
use Rattle.entity.specs.Logic.{pick}
use Rattle.job_numbers.specs.Numbers.{bytes_of}
use Rattle.job_bytes.proofs.Putting.{puts-as, first-over, then-puts}
use Rattle.job_bytes.proofs.Parts.{plain-bytes, remat-bytes, either-bytes}
use Rattle.job_bytes.proofs.put_value.Goals as goal

pub returns-then-cost-eq0 : goal.returns-then-cost-eq0
returns-then-cost-eq0 c =
    let args = c.args in
    let put_two = c.put_two in
    let if1 = c.if-cost-eq0 in
    puts-as (plain-bytes args.f.now args.v if1.true) put_two.ensures c.in_ok-next.was

pub returns-in_err-next : goal.returns-in_err-next
returns-in_err-next c =
    let args = c.args in
    let put_two = c.put_two in
    rw c.from_residual.ensures (first-over (bytes_of (pick (eqb (get_or args.f.now (1 + args.v * 4) 0) 0) [] (get_or args.f.now (2 + args.v * 4) 0 ∷ []))) (either-bytes args.f.now args.v) put_two.ensures c.in_err-next.was)

pub returns : goal.returns
returns c =
    let args = c.args in
    let put_two = c.put_two in
    let if1 = c.if-cost-eq0 in
    let put-cell = c.put_cell in
    then-puts (encoded (get_or args.f.now (2 + args.v * 4) 0)) (remat-bytes args.f.now args.v if1.false) put_two.ensures c.in_ok-next.was put-cell.ensures

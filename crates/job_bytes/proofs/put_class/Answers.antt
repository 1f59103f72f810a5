-- `put_class` meets its contract: two cells, the members, the order.
use mathlib.Core.Path.{refl}
use mathlib.Core.List.{◌++◌}
use native.Mathlib.Omega.{arith}
use Rattle.job_bytes.proofs.Putting.{first-over, then-puts}
use Rattle.job_bytes.proofs.Parts.{member_bytes, order_bytes, class-bytes}
use Rattle.job_bytes.proofs.put_class.Goals as goal

pub put_list-requires : goal.put_list-requires
put_list-requires c =
    let pre = c.requires in
    omega (arith, pre.0, pre.1)

pub put_list-requires-2 : goal.put_list-requires-2
put_list-requires-2 c =
    let pre = c.requires in
    omega (arith, pre.0, pre.2)

pub returns-in_err-a : goal.returns-in_err-a
returns-in_err-a c =
    let args = c.args in
    let put_two = c.put_two in
    rw c.from_residual.ensures (first-over (member_bytes args.t.now args.c ++ order_bytes args.t.now args.c) (class-bytes args.t.now args.c) put_two.ensures c.in_err-a.was)

pub returns-in_err-next : goal.returns-in_err-next
returns-in_err-next c =
    let args = c.args in
    let put_two = c.put_two in
    let put-list = c.put_list in
    rw c.from_residual-in_err-next.ensures (then-puts (member_bytes args.t.now args.c ++ order_bytes args.t.now args.c) (class-bytes args.t.now args.c) put_two.ensures c.in_ok-a.was
    (first-over (order_bytes args.t.now args.c) refl put-list.ensures c.in_err-next.was))

pub returns : goal.returns
returns c =
    let args = c.args in
    let put_two = c.put_two in
    let put-list = c.put_list in
    let put-list2 = c.put_list-2 in
    then-puts (member_bytes args.t.now args.c ++ order_bytes args.t.now args.c) (class-bytes args.t.now args.c) put_two.ensures c.in_ok-a.was
    (then-puts (order_bytes args.t.now args.c) refl put-list.ensures c.in_ok-next.was put-list2.ensures)

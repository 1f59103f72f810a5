-- The order's count, its registers, and then the cell of the count.
use native.Mathlib.Omega.{arith}
use Rattle.reading.proofs.Laws.{in-range}
use Rattle.job_target.proofs.Classes.{no-order-count, no-order, order-read}
use Rattle.job_target.proofs.read_order.Goals as goal

pub overflow_sub-total : goal.overflow_sub-total
overflow_sub-total c = omega (arith, c.requires.2)

pub read_list-requires : goal.read_list-requires
read_list-requires c = (omega (arith, c.requires.0), c.requires.1)

pub put-requires : goal.put-requires
put-requires c =
    let m = in-range _ _ _ _ _ _ (rw c.in-Is.is at c.between.ensures) in
    (omega (arith, c.requires.0), omega (arith, m.1))

pub returns-in-Refused : goal.returns-in-Refused
returns-in-Refused c = no-order-count _ _ _ _ _ _ _ c.requires.2 _ _ _ (rw c.in-Refused.is at c.between.ensures)

pub returns-in-Refused-read_list : goal.returns-in-Refused-read_list
returns-in-Refused-read_list c = no-order _ _ _ _ _ _ _ c.requires.2 _ _ (rw c.in-Is.is at c.between.ensures) _ _ _ _ _ (rw c.in-Refused-read_list.is at c.read_list.ensures)

pub returns-in-At : goal.returns-in-At
returns-in-At c = order-read _ _ _ _ _ _ _ _ _ _ _ c.requires.0 c.requires.2 c.requires.3 (rw c.in-Is.is at c.between.ensures) (rw c.in-At.is at c.read_list.ensures) c.put.ensures

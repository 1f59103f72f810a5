-- The member count, the members, the cell of the count, and then the order.
use native.Mathlib.Omega.{arith}
use Rattle.job_target.proofs.Classes.{no-member-count, no-members, members-read}
use Rattle.job_target.proofs.read_members.Goals as goal

pub read_list-requires : goal.read_list-requires
read_list-requires c = (omega (arith, c.requires.0), c.requires.1)

pub put-requires : goal.put-requires
put-requires c =
    let l = rw c.in-At.is at c.read_list.ensures in
    (omega (arith, c.requires.0), omega (arith, l.past.2.few))

pub read_order-requires : goal.read_order-requires
read_order-requires c =
    let l = rw c.in-At.is at c.read_list.ensures in
    (c.requires.0, c.requires.1, c.requires.2, omega (arith, c.put.ensures.here, l.past.2.few))

pub returns-in-Refused : goal.returns-in-Refused
returns-in-Refused c = no-member-count _ _ _ _ _ _ _ _ _ (rw c.in-Refused.is at c.read.ensures)

pub returns-in-Refused-read_list : goal.returns-in-Refused-read_list
returns-in-Refused-read_list c = no-members _ _ _ _ _ _ _ _ _ _ (rw c.in-Is.is at c.read.ensures) _ _ _ (rw c.in-Refused-read_list.is at c.read_list.ensures)

pub returns-in-At : goal.returns-in-At
returns-in-At c = members-read _ _ _ _ _ _ _ _ _ _ _ _ _ c.requires.0 (rw c.in-Is.is at c.read.ensures) (rw c.in-At.is at c.read_list.ensures) c.put.ensures c.read_order.ensures

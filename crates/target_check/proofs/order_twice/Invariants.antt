-- The first p registers of the order are marked, and differ.
use Rattle.reginfo.specs.RegInfo.{allocation_order}
use Rattle.reginfo.specs.Table.{reg_info_of}
use Rattle.target_check.proofs.Order.{Marked}
use Rattle.target_check.proofs.order_twice.Given as goal

abbrev pub invariant-loop-p : goal.invariant-loop-p
invariant-loop-p l = Marked (allocation_order (reg_info_of l.t) l.c.0) l.seen l.p

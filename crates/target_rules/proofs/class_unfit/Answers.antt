-- The tests in their order.
use native.Mathlib.Omega.{arith}
use Rattle.reginfo.specs.RegInfo.{allocation_order}
use Rattle.reginfo.specs.Table.{reg_info_of}
use Rattle.target_limits.proofs.Limits.{list-few, class-known, order-listed, last-known}
use Rattle.target_rules.proofs.class_unfit.Goals as goal

pub class_includes_spillslots-requires : goal.class_includes_spillslots-requires
class_includes_spillslots-requires c = class-known (reg_info_of c.args.t.now) c.requires.0 c.args.c.0 c.requires.1

pub order_len-requires : goal.order_len-requires
order_len-requires c =
    let start = c in
    class-known (reg_info_of start.args.t.now) start.requires.0 start.args.c.0 start.requires.1

pub order_last-last-requires : goal.order_last-last-requires
order_last-last-requires c = (
  class-known (reg_info_of c.args.t.now) c.requires.0 c.args.c.0 c.requires.1,
  omega arith,
  list-few (reg_info_of c.args.t.now) (allocation_order (reg_info_of c.args.t.now) c.args.c.0) (order-listed (reg_info_of c.args.t.now) c.requires.0 c.args.c.0 c.requires.1),
)

pub is_memory_reg-requires : goal.is_memory_reg-requires
is_memory_reg-requires c = rw c.order_last-last.ensures (last-known (reg_info_of c.args.t.now) c.requires.0 c.args.c.0 c.requires.1 (omega arith))

-- A class's order is cells of the table.
use native.Mathlib.Omega.{arith}
use Rattle.reginfo.specs.RegInfo.{allocation_order}
use Rattle.reginfo.specs.Table.{reg_info_of}
use Rattle.target_limits.proofs.Laws.{order-cells}
use Rattle.target_limits.proofs.Limits.{list-few, list-known, class-known, order-listed}
use Rattle.target_rules.proofs.order_memory.Goals as goal

pub order_from-at-requires : goal.order_from-at-requires
order_from-at-requires c = omega (arith, class-known (reg_info_of c.args.t.now) c.requires.0 c.args.c.0 c.requires.1)

pub order_len-n-requires : goal.order_len-n-requires
order_len-n-requires c = class-known (reg_info_of c.args.t.now) c.requires.0 c.args.c.0 c.requires.1

pub any_memory-requires : goal.any_memory-requires
any_memory-requires c =
    let start = c in (
      start.requires.0,
      omega (arith, list-few (reg_info_of start.args.t.now) (allocation_order (reg_info_of start.args.t.now) start.args.c.0) (order-listed (reg_info_of start.args.t.now) start.requires.0 start.args.c.0 start.requires.1), class-known (reg_info_of start.args.t.now) start.requires.0 start.args.c.0 start.requires.1),
      rw (c.order_from-at.ensures, c.order_len-n.ensures, ← order-cells start.args.t.now start.args.c.0 start.requires.1) (list-known (reg_info_of start.args.t.now) (allocation_order (reg_info_of start.args.t.now) start.args.c.0) (order-listed (reg_info_of start.args.t.now) start.requires.0 start.args.c.0 start.requires.1)),
    )

pub returns : goal.returns
returns c =
    let start = c in
    rw (c.order_from-at.ensures, c.order_len-n.ensures, ← order-cells start.args.t.now start.args.c.0 start.requires.1) at c.any_memory.ensures

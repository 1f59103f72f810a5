-- The bank's two classes in turn.
use Rattle.reginfo.specs.Table.{reg_info_of}
use Rattle.target_limits.proofs.Limits.{bank-known, top-known, stack-known}
use Rattle.target_rules.proofs.bank_unfit.Goals as goal

pub top_level_class-top-requires : goal.top_level_class-top-requires
top_level_class-top-requires c = bank-known (reg_info_of c.args.t.now) c.requires.0 c.args.b.0 c.requires.1

pub class_includes_spillslots-requires : goal.class_includes_spillslots-requires
class_includes_spillslots-requires c = rw c.top_level_class-top.ensures (top-known (reg_info_of c.args.t.now) c.requires.0 c.args.b.0 c.requires.1)

pub stack_to_stack_class-stack-requires : goal.stack_to_stack_class-stack-requires
stack_to_stack_class-stack-requires c =
    let start = c in
    bank-known (reg_info_of start.args.t.now) start.requires.0 start.args.b.0 start.requires.1

pub class_includes_spillslots-requires-2 : goal.class_includes_spillslots-requires-2
class_includes_spillslots-requires-2 c =
    let start = c in
    rw c.stack_to_stack_class-stack.ensures (stack-known (reg_info_of start.args.t.now) start.requires.0 start.args.b.0 start.requires.1)

pub order_memory-requires : goal.order_memory-requires
order_memory-requires c =
    let start = c in
    (start.requires.0, rw c.stack_to_stack_class-stack.ensures (stack-known (reg_info_of start.args.t.now) start.requires.0 start.args.b.0 start.requires.1).is)

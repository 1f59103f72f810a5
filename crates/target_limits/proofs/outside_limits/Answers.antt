-- Counts that fit are few.
use Rattle.reginfo.specs.Table.{reg_info_of}
use Rattle.target_limits.proofs.Limits.{banks-few, regs-few, classes-few}
use Rattle.target_limits.proofs.outside_limits.Goals as goal

pub banks_unfit-requires : goal.banks_unfit-requires
banks_unfit-requires c = banks-few (reg_info_of c.args.t.now) (cc)

pub regs_unfit-requires : goal.regs_unfit-requires
regs_unfit-requires c = regs-few (reg_info_of c.args.t.now) (cc)

pub classes_unfit-requires : goal.classes_unfit-requires
classes_unfit-requires c = classes-few (reg_info_of c.args.t.now) (cc)

pub order_total-requires : goal.order_total-requires
order_total-requires c = (classes-few (reg_info_of c.args.t.now) (cc), cc)

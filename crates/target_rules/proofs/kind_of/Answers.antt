-- The flag says which.
use Rattle.reginfo.specs.Table.{reg_info_of}
use Rattle.target_limits.proofs.Limits.{reg_known}
use Rattle.target_rules.proofs.kind_of.Goals as goal

pub is_memory_reg-requires : goal.is_memory_reg-requires
is_memory_reg-requires c = reg_known (reg_info_of c.args.t.now) c.requires.0 c.args.r.0 c.requires.1

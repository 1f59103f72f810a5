use mathlib.Core.Path.{◌≡◌}
use mathlib.Core.Path.{sym}
use native.Mathlib.Omega.{arith}
use Rattle.reginfo.specs.RegInfo.{num_regs}
use Rattle.reginfo.specs.Table.{reg_info_of}
use Rattle.target_limits.proofs.Limits.{regs-few, counts_of}
use Rattle.target_rules.proofs.UnitKinds.{none-noted, all_noted}
use Rattle.target_rules.proofs.shared_memory.Goals as goal

pub loop-i-init : goal.loop-i-init
loop-i-init c = none-noted (reg_info_of c.args.t.now)

pub overflow_cast-i : goal.overflow_cast-i
overflow_cast-i c = omega (arith, regs-few (reg_info_of c.args.t.now) (counts_of (reg_info_of c.args.t.now) c.requires))

pub returns : goal.returns
returns c = let e : c.loop-i.i ≡ num_regs (reg_info_of c.args.t.now) = omega arith in sym (all_noted (reg_info_of c.args.t.now) c.loop-i.kinds (rw e at c.loop-i.invariant))

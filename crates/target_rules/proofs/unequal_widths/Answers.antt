use mathlib.Core.Path.{◌≡◌}
use mathlib.Core.Path.{sym}
use native.Mathlib.Omega.{arith}
use Rattle.reginfo.specs.RegInfo.{num_regs}
use Rattle.reginfo.specs.Table.{reg_info_of}
use Rattle.target_limits.proofs.Limits.{regs-few, counts_of}
use Rattle.target_rules.proofs.Widths.{widths-equal}
use Rattle.target_rules.proofs.unequal_widths.Goals as goal

pub overflow_cast-i : goal.overflow_cast-i
overflow_cast-i c = omega (arith, regs-few (reg_info_of c.args.t.now) (counts_of (reg_info_of c.args.t.now) c.requires))

pub returns : goal.returns
returns c = let e : c.loop-i.i ≡ num_regs (reg_info_of c.args.t.now) = omega arith in sym (widths-equal (reg_info_of c.args.t.now) c.loop-i.widths (rw e at c.loop-i.invariant))

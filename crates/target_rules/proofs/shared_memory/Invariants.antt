-- The registers below i are noted.
use Rattle.reginfo.specs.Table.{reg_info_of}
use Rattle.target_rules.specs.UnitKinds.{Noted}
use Rattle.target_rules.proofs.shared_memory.Given as goal

abbrev pub invariant-loop-i : goal.invariant-loop-i
invariant-loop-i l = Noted (reg_info_of l.t) l.i l.kinds

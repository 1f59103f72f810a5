-- `has_unit` meets its contract: whether the unit is listed from the start equals whether it is listed from here.
use Prim.Native.Nat.{◌≤◌}
use mathlib.Core.Path.{◌≡◌}
use lib.ListN.{length, drop}
use Rattle.entity.specs.Logic.{has}
use Rattle.reginfo.specs.RegInfo.{reg_units}
use Rattle.reginfo.specs.Table.{reg_info_of}
use Rattle.reginfo.proofs.has_unit.Given as goal

abbrev pub invariant-loop-j : goal.invariant-loop-j
invariant-loop-j l = (has l.u.0 (reg_units (reg_info_of l.t) l.r.0) ≡ has l.u.0 (drop l.j (reg_units (reg_info_of l.t) l.r.0))) × (l.j ≤ length (reg_units (reg_info_of l.t) l.r.0))

-- `close_reg` meets its contract: unit by unit.
use Prim.Native.Nat.{◌≤◌}
use mathlib.Core.Path.{◌≡◌}
use lib.ListN.{length}
use Rattle.reginfo.specs.RegInfo.{reg_units}
use Rattle.reginfo.specs.Table.{reg_info_of}
use Rattle.groups.proofs.Free.{Closing}
use Rattle.groups.proofs.close_reg.Given as goal

abbrev pub invariant-loop-j : goal.invariant-loop-j
invariant-loop-j l = (l.j ≤ l.n) × (l.n ≡ length (reg_units (reg_info_of l.t) l.r.0)) × Closing (reg_units (reg_info_of l.t) l.r.0) l.j l.initial.out l.out

-- `regs_overlap` meets its contract: whether a unit of the second is shared from the start equals whether one is shared from here, and what
-- the second shares with the first the first shares with the second.
use Prim.Native.Nat.{◌≤◌}
use mathlib.Core.Path.{◌≡◌}
use lib.ListN.{length, drop}
use Rattle.entity.specs.Logic.{meets}
use Rattle.reginfo.specs.RegInfo.{reg_units}
use Rattle.reginfo.specs.Table.{reg_info_of}
use Rattle.reginfo.proofs.regs_overlap.Given as goal

abbrev pub invariant-loop-k : goal.invariant-loop-k
invariant-loop-k l = (meets (reg_units (reg_info_of l.t) l.b.0) (reg_units (reg_info_of l.t) l.a.0) ≡ meets (drop l.k (reg_units (reg_info_of l.t) l.b.0)) (reg_units (reg_info_of l.t) l.a.0)) × (l.k ≤ length (reg_units (reg_info_of l.t) l.b.0))

-- The units before j are noted.
use Prim.Native.Nat.{◌≤◌}
use Rattle.reginfo.specs.Table.{reg_info_of}
use Rattle.target_rules.proofs.UnitKinds.{Noting}
use Rattle.target_rules.proofs.units_agree.Given as goal

abbrev pub invariant-loop-j : goal.invariant-loop-j
invariant-loop-j l = (l.j ≤ l.n) × Noting (reg_info_of l.t) l.r.0 l.j l.kinds

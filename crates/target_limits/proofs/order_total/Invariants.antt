-- The sum so far and what is left add up to the whole.
use Prim.Native.Nat.{◌+◌, ◌-◌, ◌*◌, ◌≤◌}
use mathlib.Core.Path.{◌≡◌}
use mathlib.Core.List.{map}
use Rattle.entity.specs.Logic.{indices}
use Rattle.reginfo.specs.RegInfo.{num_classes}
use Rattle.reginfo.specs.Table.{reg_info_of, class_at}
use Rattle.reginfo.specs.Refused.{order_total}
use Rattle.target_limits.proofs.order_total.Given as goal

abbrev pub invariant-loop-i : goal.invariant-loop-i
invariant-loop-i l = (l.n + order_total (map (class_at l.t) (indices l.i (num_classes (reg_info_of l.t) - l.i))) ≡ order_total (reg_info_of l.t).classes) × (l.n ≤ l.i * 512)

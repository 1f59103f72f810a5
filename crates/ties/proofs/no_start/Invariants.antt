-- `no_start` meets its contract: those below the index agree with the ones that their sources' cells tell.
use Prim.Native.Nat.{ℕ, ◌<◌, ◌≤◌}
use mathlib.Core.Path.{◌≡◌}
use Rattle.reginfo.specs.Table.{reg_info_of}
use Rattle.function.specs.Table.{function_of}
use Rattle.examine_rules.specs.Examine.{width}
use Rattle.ties.specs.Ties.{kept, value_at, by_source}
use Rattle.ties.proofs.no_start.Given as goal

abbrev pub invariant-loop-i : goal.invariant-loop-i
invariant-loop-i l = ((m : ℕ) → m < l.i → width (reg_info_of l.t) (function_of l.f) (value_at l.e m) ≡ width (reg_info_of l.t) (function_of l.f) (value_at l.e (by_source l.e l.x m))) × (l.i ≤ kept l.e) × (l.n ≡ kept l.e)

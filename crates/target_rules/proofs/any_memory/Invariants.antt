-- No cell so far passes the test.
use Prim.Native.Nat.{ℕ, ◌+◌, ◌<◌}
use mathlib.Core.Path.{◌≡◌}
use mathlib.Core.Bool.{false}
use lib.ListN.{get_or}
use Rattle.reginfo.specs.RegInfo.{is_memory_reg}
use Rattle.reginfo.specs.Table.{reg_info_of}
use Rattle.target_rules.proofs.any_memory.Given as goal

abbrev pub invariant-loop-i : goal.invariant-loop-i
invariant-loop-i l = (k : ℕ) → k < l.i → is_memory_reg (reg_info_of l.t) (get_or l.t (l.at + k) 0) ≡ false

-- No cell so far passes the test.
use Prim.Native.Nat.{ℕ, ◌+◌, ◌<◌}
use mathlib.Core.Path.{◌≡◌}
use mathlib.Core.Bool.{false}
use lib.ListN.{get_or}
use Rattle.reginfo.specs.Table.{reg_info_of}
use Rattle.target_rules.specs.Rules.{no_member}
use Rattle.target_rules.proofs.order_foreign.Given as goal

abbrev pub invariant-loop-i : goal.invariant-loop-i
invariant-loop-i l = (k : ℕ) → k < l.i → no_member (reg_info_of l.t) l.c.0 (get_or l.t (l.at + k) 0) ≡ false

-- The sum over the formulas before j.
use Prim.Native.Nat.{◌*◌, ◌≤◌}
use mathlib.Core.Path.{◌≡◌}
use Rattle.rules.specs.Counts.{sum}
use Rattle.frame_table.specs.Table.{number_of, lacks_beside}
use Rattle.frame_table.proofs.others_lack.Given as goal

abbrev pub invariant-loop-j : goal.invariant-loop-j
invariant-loop-j l = (l.n ≡ number_of l.frame) × (l.sum ≡ sum (lacks_beside l.frame l.i) l.j) × (l.j ≤ l.n) × (l.n ≤ 16) × (l.sum ≤ l.j * 65536)

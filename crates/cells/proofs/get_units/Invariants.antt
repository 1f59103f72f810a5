-- `get_units` meets its contract: the words of the units below the index stand in the list.
use Prim.Native.Nat.{ℕ, ◌+◌, ◌<◌, ◌≤◌}
use mathlib.Core.Path.{◌≡◌}
use mathlib.Core.List.{map}
use lib.ListN.{length, get_or}
use Rattle.reginfo.specs.RegInfo.{reg_units}
use Rattle.reginfo.specs.Table.{reg_info_of}
use Rattle.cells.specs.Cells.{memory_of}
use Rattle.cells.proofs.get_units.Given as goal

abbrev pub invariant-loop-j : goal.invariant-loop-j
invariant-loop-j l = (length l.b ≡ 10) × ((k : ℕ) → k < l.j → get_or l.b (1 + k) 0 ≡ get_or (map (memory_of l.c).word (reg_units (reg_info_of l.t) l.r.0)) k 0) × (l.j ≤ l.n) × (l.n ≡ length (reg_units (reg_info_of l.t) l.r.0))

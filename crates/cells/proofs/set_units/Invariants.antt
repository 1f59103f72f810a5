-- `set_units` meets its contract: the units from the index on have their words, the last first.
use Prim.Native.Nat.{◌≤◌}
use mathlib.Core.Path.{◌≡◌}
use lib.ListN.{length, drop}
use Rattle.reginfo.specs.RegInfo.{reg_units}
use Rattle.reginfo.specs.Table.{reg_info_of}
use Rattle.machine.specs.Machine.{put}
use Rattle.cells.specs.Cells.{memory_of, Short, words_in}
use Rattle.cells.proofs.Laws.{mem}
use Rattle.cells.proofs.set_units.Given as goal

abbrev pub invariant-loop-j : goal.invariant-loop-j
invariant-loop-j l = (memory_of l.c ≡ mem (put (drop l.j (reg_units (reg_info_of l.t) l.r.0)) (drop l.j (words_in l.b)) (memory_of l.initial.c).word) (memory_of l.initial.c).lists) × Short l.c × (length l.c ≡ 67072) × (l.j ≤ length (reg_units (reg_info_of l.t) l.r.0))

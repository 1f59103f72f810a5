-- `slots_stay` meets its contract: whether all stay from the start equals whether all do from here.
use Prim.Native.Nat.{◌-◌, ◌≤◌}
use mathlib.Core.Path.{◌≡◌}
use Rattle.entity.specs.Logic.{all_in, indices}
use Rattle.cells.specs.Cells.{memory_of}
use Rattle.examine.specs.Ends.{slot_stays}
use Rattle.examine.proofs.slots_stay.Given as goal

abbrev pub invariant-loop-x : goal.invariant-loop-x
invariant-loop-x l = (all_in (slot_stays (memory_of l.s) (memory_of l.c) l.w) (indices 0 l.n) ≡ all_in (slot_stays (memory_of l.s) (memory_of l.c) l.w) (indices l.x (l.n - l.x))) × (l.x ≤ l.n)

-- `units_stay` meets its contract: whether all stay from the start equals whether all do from here.
use Prim.Native.Nat.{◌-◌, ◌≤◌}
use mathlib.Core.Path.{◌≡◌}
use Rattle.entity.specs.Logic.{all_in, indices}
use Rattle.cells.specs.Cells.{memory_of}
use Rattle.examine.specs.Ends.{unit_stays}
use Rattle.examine.proofs.units_stay.Given as goal

abbrev pub invariant-loop-u : goal.invariant-loop-u
invariant-loop-u l = (all_in (unit_stays (memory_of l.s) (memory_of l.c) l.w l.free) (indices 0 512) ≡ all_in (unit_stays (memory_of l.s) (memory_of l.c) l.w l.free) (indices l.u (512 - l.u))) × (l.u ≤ 512)

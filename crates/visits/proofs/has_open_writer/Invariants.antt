-- `has_open_writer` meets its contract: whether a unit's writer is open from the start equals whether one is from here.
use Prim.Native.Nat.{◌≤◌}
use mathlib.Core.Path.{◌≡◌}
use lib.ListN.{length, drop}
use Rattle.entity.specs.Logic.{any_in}
use Rattle.entity.specs.Place.{place_at}
use Rattle.reginfo.specs.RegInfo.{place_units}
use Rattle.reginfo.specs.Table.{reg_info_of}
use Rattle.visits.specs.Marks.{states_of}
use Rattle.visits.proofs.Writers.{open_unit}
use Rattle.visits.proofs.has_open_writer.Given as goal

abbrev pub invariant-loop-j : goal.invariant-loop-j
invariant-loop-j l = (any_in (open_unit l.w (states_of l.marks)) (place_units (reg_info_of l.t) (place_at l.p.0)) ≡ any_in (open_unit l.w (states_of l.marks)) (drop l.j (place_units (reg_info_of l.t) (place_at l.p.0)))) × (l.j ≤ length (place_units (reg_info_of l.t) (place_at l.p.0)))

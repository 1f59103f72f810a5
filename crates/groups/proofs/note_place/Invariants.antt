-- `note_place` meets its contract: unit by unit.
use mathlib.Core.Path.{◌≡◌}
use Prim.Native.Nat.{◌≤◌}
use lib.ListN.{length}
use Rattle.entity.specs.Place.{place_at}
use Rattle.reginfo.specs.RegInfo.{place_units}
use Rattle.reginfo.specs.Table.{reg_info_of}
use Rattle.groups.proofs.Noting.{NotedTo}
use Rattle.groups.proofs.note_place.Given as goal

abbrev pub invariant-loop-j : goal.invariant-loop-j
invariant-loop-j l = (l.j ≤ l.n) × (l.n ≡ length (place_units (reg_info_of l.t) (place_at l.p.0))) × NotedTo (reg_info_of l.t) (place_units (reg_info_of l.t) (place_at l.p.0)) l.k l.j l.initial.owners l.initial.labels l.owners l.labels

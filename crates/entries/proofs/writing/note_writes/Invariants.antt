-- `note_writes` meets its contract: a unit that has a writer undoes what was noted.
use Rattle.entity.specs.Place.{place_at}
use Rattle.reginfo.specs.RegInfo.{place_units}
use Rattle.reginfo.specs.Table.{reg_info_of}
use Rattle.entries.proofs.Noting.{Noting}
use Rattle.entries.proofs.writing.note_writes.Given as goal

abbrev pub invariant-loop-j : goal.invariant-loop-j
invariant-loop-j l = Noting (place_units (reg_info_of l.t) (place_at l.p.0)) l.initial.w l.x l.w l.j

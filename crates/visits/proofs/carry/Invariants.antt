-- `carry` meets its contract: the first units' writers have carried the value, and the others are left to do.
use Rattle.entity.specs.Place.{place_at}
use Rattle.reginfo.specs.RegInfo.{place_units}
use Rattle.reginfo.specs.Table.{reg_info_of}
use Rattle.visits.specs.Marks.{states_of}
use Rattle.visits.proofs.Carrying.{Carrying}
use Rattle.visits.proofs.carry.Given as goal

abbrev pub invariant-loop-j : goal.invariant-loop-j
invariant-loop-j l = Carrying (states_of l.marks) l.v.0 l.w (place_units (reg_info_of l.t) (place_at l.p.0)) l.initial.c l.c l.added l.j

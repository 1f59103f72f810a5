-- `put_edit` meets its contract: what the word was read as decides.
use mathlib.Core.Path.{ap}
use Rattle.print.specs.Words.{line_of}
use Rattle.print.proofs.Putting.{nothing_put}
use Rattle.print.proofs.put_edit.Goals as goal

pub put_move-requires : goal.put_move-requires
put_move-requires c = rw (ap line_of (rw c.in-Some-Move.field-0-is at c.in-Some-Move.ensures)) c.requires

pub put_remat-requires : goal.put_remat-requires
put_remat-requires c = rw (ap line_of (rw c.in-Some-Rematerialize.field-0-is at c.in-Some-Rematerialize.ensures)) c.requires

pub put_spill-requires : goal.put_spill-requires
put_spill-requires c = rw (ap line_of (rw c.in-Some-EmergencySpill.field-0-is at c.in-Some-EmergencySpill.ensures)) c.requires

pub put_reload-requires : goal.put_reload-requires
put_reload-requires c = rw (ap line_of (rw c.in-Some-EmergencyReload.field-0-is at c.in-Some-EmergencyReload.ensures)) c.requires

pub returns-in-Some-Move : goal.returns-in-Some-Move
returns-in-Some-Move c = rw (← ap line_of (rw c.in-Some-Move.field-0-is at c.in-Some-Move.ensures)) c.put_move.ensures

pub returns-in-Some-Rematerialize : goal.returns-in-Some-Rematerialize
returns-in-Some-Rematerialize c = rw (← ap line_of (rw c.in-Some-Rematerialize.field-0-is at c.in-Some-Rematerialize.ensures)) c.put_remat.ensures

pub returns-in-Some-EmergencySpill : goal.returns-in-Some-EmergencySpill
returns-in-Some-EmergencySpill c = rw (← ap line_of (rw c.in-Some-EmergencySpill.field-0-is at c.in-Some-EmergencySpill.ensures)) c.put_spill.ensures

pub returns-in-Some-EmergencyReload : goal.returns-in-Some-EmergencyReload
returns-in-Some-EmergencyReload c = rw (← ap line_of (rw c.in-Some-EmergencyReload.field-0-is at c.in-Some-EmergencyReload.ensures)) c.put_reload.ensures

pub returns-in-None : goal.returns-in-None
returns-in-None c = let e = ap line_of c.in-None.ensures in rw (← e) (nothing_put (rw e c.requires))

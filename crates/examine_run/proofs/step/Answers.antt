-- `step` meets its contract: by what is read.
use Rattle.examine_run.proofs.Laws.{is_some, move-named, remat-named, spill-named, reload-named}
use Rattle.examine_run.proofs.step.Goals as goal

pub do_move-requires : goal.do_move-requires
do_move-requires c = let n = move-named c.args.t.now c.args.f.now c.requires.0 c.args.most c.requires.3 c.args.word c.requires.4 _ _ _ (rw c.in-Some-Move.field-0-is at c.in-Some-Move.ensures) in (c.requires.2, n.0, n.1)

pub do_remat-requires : goal.do_remat-requires
do_remat-requires c = let n = remat-named c.args.t.now c.args.f.now c.requires.0 c.args.most c.requires.3 c.args.word c.requires.4 _ _ (rw c.in-Some-Rematerialize.field-0-is at c.in-Some-Rematerialize.ensures) in (c.requires.0, c.requires.1, c.requires.2, n.0, n.1)

pub do_spill-requires : goal.do_spill-requires
do_spill-requires c = let n = spill-named c.args.t.now c.args.f.now c.requires.0 c.args.most c.requires.3 c.args.word c.requires.4 _ _ (rw c.in-Some-EmergencySpill.field-0-is at c.in-Some-EmergencySpill.ensures) in (c.requires.2, n.0, n.1, n.2, n.3)

pub do_reload-requires : goal.do_reload-requires
do_reload-requires c = let n = reload-named c.args.t.now c.args.f.now c.requires.0 c.args.most c.requires.3 c.args.word c.requires.4 _ _ (rw c.in-Some-EmergencyReload.field-0-is at c.in-Some-EmergencyReload.ensures) in (c.requires.2, n.0, n.1, n.2, n.3)

pub returns-in-None : goal.returns-in-None
returns-in-None c = absurd (is_some c.args.t.now c.args.f.now c.requires.0 c.args.most c.requires.3 c.args.word c.requires.4 c.in-None.ensures)

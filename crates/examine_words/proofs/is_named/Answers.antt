-- `is_named` meets its contract: by what is read.
use Rattle.reginfo.specs.Table.{reg_info_of}
use Rattle.function.specs.Table.{function_of}
use Rattle.examine_words.proofs.Laws.{named-word, named_none}
use Rattle.examine_words.proofs.is_named.Goals as goal

pub returns-in-Some-Move : goal.returns-in-Some-Move
returns-in-Some-Move c = rw c.is_move.ensures (named-word (reg_info_of c.args.t.now) (function_of c.args.f.now) c.args.most c.args.word _ (rw c.in-Some-Move.field-0-is at c.in-Some-Move.ensures))

pub returns-in-Some-Rematerialize : goal.returns-in-Some-Rematerialize
returns-in-Some-Rematerialize c = rw c.is_remat.ensures (named-word (reg_info_of c.args.t.now) (function_of c.args.f.now) c.args.most c.args.word _ (rw c.in-Some-Rematerialize.field-0-is at c.in-Some-Rematerialize.ensures))

pub returns-in-Some-EmergencySpill : goal.returns-in-Some-EmergencySpill
returns-in-Some-EmergencySpill c = rw c.is_spill.ensures (named-word (reg_info_of c.args.t.now) (function_of c.args.f.now) c.args.most c.args.word _ (rw c.in-Some-EmergencySpill.field-0-is at c.in-Some-EmergencySpill.ensures))

pub returns-in-Some-EmergencyReload : goal.returns-in-Some-EmergencyReload
returns-in-Some-EmergencyReload c = rw c.is_reload.ensures (named-word (reg_info_of c.args.t.now) (function_of c.args.f.now) c.args.most c.args.word _ (rw c.in-Some-EmergencyReload.field-0-is at c.in-Some-EmergencyReload.ensures))

pub returns-in-None : goal.returns-in-None
returns-in-None c = named_none (reg_info_of c.args.t.now) (function_of c.args.f.now) c.args.most c.args.word c.in-None.ensures

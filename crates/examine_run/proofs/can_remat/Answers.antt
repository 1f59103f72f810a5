-- `can_rebuild` meets its contract: the value has a class, and the class the place.
use mathlib.Core.Path.{sym, ap, ◌∙◌}
use Rattle.function.specs.Table.{function_of}
use Rattle.function.specs.Answers.{remat_of}
use Rattle.function.proofs.Laws.{never-remat, remat-known}
use Rattle.entries.proofs.Fates.{value-known, class-known}
use Rattle.examine_run.proofs.can_remat.Goals as goal

pub can_rematerialize-requires : goal.can_rematerialize-requires
can_rematerialize-requires c = value-known c.args.t.now c.args.f.now c.requires.0 c.args.v.0 c.requires.2

pub class_has-requires : goal.class_has-requires
class_has-requires c = let s = c in (class-known s.args.t.now s.args.f.now s.requires.0 s.args.v.0 s.requires.2 _ (sym (ap remat_of c.in-CheaperThanMove.is) ∙ c.can_rematerialize.ensures), s.requires.1)

pub class_has-requires-in-CheaperThanLoad : goal.class_has-requires-in-CheaperThanLoad
class_has-requires-in-CheaperThanLoad c = let s = c in (class-known s.args.t.now s.args.f.now s.requires.0 s.args.v.0 s.requires.2 _ (sym (ap remat_of c.in-CheaperThanLoad.is) ∙ c.can_rematerialize.ensures), s.requires.1)

pub returns-in-Never : goal.returns-in-Never
returns-in-Never c = let s = c in rw (never-remat (function_of s.args.f.now) s.args.v.0 (sym (ap remat_of c.in-Never.is) ∙ c.can_rematerialize.ensures))

pub returns-in-CheaperThanMove : goal.returns-in-CheaperThanMove
returns-in-CheaperThanMove c = let s = c in let r = remat-known (function_of s.args.f.now) s.args.v.0 _ (sym (ap remat_of c.in-CheaperThanMove.is) ∙ c.can_rematerialize.ensures) in rw (r.0, r.2) c.class_has.ensures

pub returns-in-CheaperThanLoad : goal.returns-in-CheaperThanLoad
returns-in-CheaperThanLoad c = let s = c in let r = remat-known (function_of s.args.f.now) s.args.v.0 _ (sym (ap remat_of c.in-CheaperThanLoad.is) ∙ c.can_rematerialize.ensures) in rw (r.0, r.2) c.class_has-in-CheaperThanLoad.ensures

-- `remat_clashes` meets its contract: a rebuild has a class.
use mathlib.Core.Path.{sym, ap, ◌∙◌}
use mathlib.Core.Bool.{true≢false}
use Rattle.entity.specs.Place.{place_at}
use Rattle.function.specs.Table.{function_of}
use Rattle.function.specs.Answers.{remat_of}
use Rattle.function.proofs.Laws.{never-remat, remat-known}
use Rattle.entries.proofs.Fates.{writable, value-known, class_low}
use Rattle.entries.proofs.refusals.remat_clashes.Goals as goal

pub can_rematerialize-requires : goal.can_rematerialize-requires
can_rematerialize-requires c = value-known c.args.t.now c.args.f.now c.requires.0 c.args.v.0 c.requires.1.value-named

pub last_clashes-requires : goal.last_clashes-requires
last_clashes-requires c =
    let s = c in
    (s.requires.0.target, class_low s.args.t.now s.args.f.now s.requires.0 s.args.v.0 s.requires.1.value-named _ (sym (ap remat_of c.in-CheaperThanMove.is) ∙ c.can_rematerialize.ensures), (writable s.args.t.now s.args.f.now s.requires.0 (place_at s.args.dest.0) s.requires.1.dest-named).known)

pub last_clashes-requires-in-CheaperThanLoad : goal.last_clashes-requires-in-CheaperThanLoad
last_clashes-requires-in-CheaperThanLoad c =
    let s = c in
    (s.requires.0.target, class_low s.args.t.now s.args.f.now s.requires.0 s.args.v.0 s.requires.1.value-named _ (sym (ap remat_of c.in-CheaperThanLoad.is) ∙ c.can_rematerialize.ensures), (writable s.args.t.now s.args.f.now s.requires.0 (place_at s.args.dest.0) s.requires.1.dest-named).known)

pub returns-in-Never : goal.returns-in-Never
returns-in-Never c =
    let s = c in
    absurd (true≢false (sym s.requires.1.can ∙ never-remat (function_of s.args.f.now) s.args.v.0 (sym (ap remat_of c.in-Never.is) ∙ c.can_rematerialize.ensures)))

pub returns-in-CheaperThanMove : goal.returns-in-CheaperThanMove
returns-in-CheaperThanMove c =
    let s = c in
    rw (remat-known (function_of s.args.f.now) s.args.v.0 _ (sym (ap remat_of c.in-CheaperThanMove.is) ∙ c.can_rematerialize.ensures)).2 c.last_clashes.ensures

pub returns-in-CheaperThanLoad : goal.returns-in-CheaperThanLoad
returns-in-CheaperThanLoad c =
    let s = c in
    rw (remat-known (function_of s.args.f.now) s.args.v.0 _ (sym (ap remat_of c.in-CheaperThanLoad.is) ∙ c.can_rematerialize.ensures)).2 c.last_clashes-in-CheaperThanLoad.ensures

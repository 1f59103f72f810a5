-- `remat_class` meets its contract: a value that can be rebuilt has a class.
use mathlib.Core.Path.{sym, ap, ◌∙◌}
use mathlib.Core.Bool.{true≢false}
use Rattle.function.specs.Table.{function_of}
use Rattle.function.specs.Answers.{remat_of}
use Rattle.function.proofs.Laws.{never-remat, remat-known}
use Rattle.remats.proofs.remat_class.Goals as goal

pub returns-in-Never : goal.returns-in-Never
returns-in-Never c =
    let s = c in
    absurd (true≢false (sym s.requires.2 ∙ never-remat (function_of s.args.f.now) s.args.v.0 (sym (ap remat_of c.in-Never.is) ∙ c.can_rematerialize.ensures)))

pub returns-in-CheaperThanMove : goal.returns-in-CheaperThanMove
returns-in-CheaperThanMove c =
    let s = c in
    sym (remat-known (function_of s.args.f.now) s.args.v.0 _ (sym (ap remat_of c.in-CheaperThanMove.is) ∙ c.can_rematerialize.ensures)).2

pub returns-in-CheaperThanLoad : goal.returns-in-CheaperThanLoad
returns-in-CheaperThanLoad c =
    let s = c in
    sym (remat-known (function_of s.args.f.now) s.args.v.0 _ (sym (ap remat_of c.in-CheaperThanLoad.is) ∙ c.can_rematerialize.ensures)).2

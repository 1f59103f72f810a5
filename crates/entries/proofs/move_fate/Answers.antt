-- `move_fate` meets its contract: by how the value is rebuilt, if it can be.
use mathlib.Core.Path.{refl, sym, ap, ◌∙◌}
use mathlib.Core.Bool.{true, false}
use Rattle.entity.specs.Place.{place_at}
use Rattle.reginfo.specs.Table.{reg_info_of}
use Rattle.function.specs.Table.{function_of}
use Rattle.function.specs.Answers.{remat_of}
use Rattle.function.proofs.Laws.{known-value, cost-there}
use Rattle.entries.proofs.Fates.{class-known, fate-never, fate-direct, fate-cheap, fate-load}
use Rattle.entries.proofs.move_fate.Goals as goal

pub can_rematerialize-requires : goal.can_rematerialize-requires
can_rematerialize-requires c =
    let T = reg_info_of c.args.t.now in
    let F = function_of c.args.f.now in
    (known-value T F c.requires.0.function c.args.v.0 c.requires.1, cost-there T F c.requires.0.function c.args.v.0 c.requires.1)

pub class_has-direct-requires : goal.class_has-direct-requires
class_has-direct-requires c =
    let s = c in
    (class-known s.args.t.now s.args.f.now s.requires.0 s.args.v.0 s.requires.1 _ (sym (ap remat_of c.in-CheaperThanMove.is) ∙ c.can_rematerialize.ensures), s.requires.3.known)

pub returns-then-direct : goal.returns-then-direct
returns-then-direct c =
    let s = c in
    fate-direct s.args.t.now s.args.f.now s.requires.0 s.args.v.0 s.requires.1 _ (sym (ap remat_of c.in-CheaperThanMove.is) ∙ c.can_rematerialize.ensures) (place_at s.args.source.0) (place_at s.args.dest.0) (sym c.if-direct.true ∙ c.class_has-direct.ensures)

pub returns-then-is_memory : goal.returns-then-is_memory
returns-then-is_memory c =
    let s = c in
    fate-cheap s.args.t.now s.args.f.now s.requires.0 s.args.v.0 s.requires.1 _ (sym (ap remat_of c.in-CheaperThanMove.is) ∙ c.can_rematerialize.ensures) (place_at s.args.source.0) (place_at s.args.dest.0) true false (sym c.if-is_memory.true ∙ c.is_memory.ensures) (sym c.if-direct.false ∙ c.class_has-direct.ensures)

pub class_has-direct-requires-then-memory : goal.class_has-direct-requires-then-memory
class_has-direct-requires-then-memory c =
    let s = c in
    (class-known s.args.t.now s.args.f.now s.requires.0 s.args.v.0 s.requires.1 _ (sym (ap remat_of c.in-CheaperThanLoad.is) ∙ c.can_rematerialize.ensures), s.requires.3.known)

pub returns-then-memory : goal.returns-then-memory
returns-then-memory c =
    let s = c in
    fate-load s.args.t.now s.args.f.now s.requires.0 s.args.v.0 s.requires.1 _ (sym (ap remat_of c.in-CheaperThanLoad.is) ∙ c.can_rematerialize.ensures) (place_at s.args.source.0) (place_at s.args.dest.0) true c.class_has-direct-then-memory.result (sym c.if-memory.true ∙ c.is_memory-memory.ensures) c.class_has-direct-then-memory.ensures

pub returns-in-Never : goal.returns-in-Never
returns-in-Never c =
    let s = c in
    fate-never s.args.t.now s.args.f.now s.requires.0 s.args.v.0 s.requires.1 (sym (ap remat_of c.in-Never.is) ∙ c.can_rematerialize.ensures) (place_at s.args.source.0) (place_at s.args.dest.0)

pub returns-else-is_memory : goal.returns-else-is_memory
returns-else-is_memory c =
    let s = c in
    fate-cheap s.args.t.now s.args.f.now s.requires.0 s.args.v.0 s.requires.1 _ (sym (ap remat_of c.in-CheaperThanMove.is) ∙ c.can_rematerialize.ensures) (place_at s.args.source.0) (place_at s.args.dest.0) false false (sym c.if-is_memory.false ∙ c.is_memory.ensures) (sym c.if-direct.false ∙ c.class_has-direct.ensures)

pub returns-else-memory : goal.returns-else-memory
returns-else-memory c =
    let s = c in
    fate-load s.args.t.now s.args.f.now s.requires.0 s.args.v.0 s.requires.1 _ (sym (ap remat_of c.in-CheaperThanLoad.is) ∙ c.can_rematerialize.ensures) (place_at s.args.source.0) (place_at s.args.dest.0) false _ (sym c.if-memory.false ∙ c.is_memory-memory.ensures) (refl)

-- `add_named_remat` meets its contract: 9, then 11, then what the rebuild answers.
use mathlib.Core.Path.{sym, ap, ◌∙◌}
use Rattle.entity.specs.Place.{place_at}
use borrow.Author.Tests.{not-true, not-false}
use Rattle.function.specs.Table.{function_of}
use Rattle.function.specs.Answers.{remat_of}
use Rattle.function.proofs.Laws.{never-remat, remat-known}
use Rattle.entries.proofs.Table.{entries-count}
use Rattle.entries.proofs.Fates.{writable, value-known, class-known}
use Rattle.entries.proofs.Adding.{roomy, foreign-remat, not-remat, added-remat}
use Rattle.entries.proofs.add_named_remat.Goals as goal

pub value_bank-bank-requires : goal.value_bank-bank-requires
value_bank-bank-requires c = (value-known c.args.t.now c.args.f.now c.requires.0 c.args.v.0 c.requires.2.value-named).0

pub of_bank-requires : goal.of_bank-requires
of_bank-requires c = let s = c in (writable _ _ s.requires.0 (place_at s.args.dest.0) s.requires.2.dest-named).known

pub returns-then-not-of_bank : goal.returns-then-not-of_bank
returns-then-not-of_bank c =
    let s = c in
    foreign-remat _ _ _ _ s.requires.0 s.requires.1 _ _ s.requires.2 (rw (← c.value_bank-bank.ensures) (sym c.of_bank.ensures ∙ not-true _ c.if-not-of_bank.true-raw))

pub can_rematerialize-requires : goal.can_rematerialize-requires
can_rematerialize-requires c = let s = c in let t = s.args.t.now in let f = s.args.f.now in value-known t f s.requires.0 s.args.v.0 s.requires.2.value-named

pub new_remat_in-requires : goal.new_remat_in-requires
new_remat_in-requires c =
    let s = c in
    let t = s.args.t.now in
    let f = s.args.f.now in
    (roomy _ _ _ _ s.requires.1 (rw entries-count at s.requires.2.less), writable _ _ s.requires.0 _ s.requires.2.dest-named, class-known t f s.requires.0 s.args.v.0 s.requires.2.value-named _ (sym (ap remat_of c.in-CheaperThanMove.is) ∙ c.can_rematerialize.ensures))

pub new_remat_in-requires-in-CheaperThanLoad : goal.new_remat_in-requires-in-CheaperThanLoad
new_remat_in-requires-in-CheaperThanLoad c =
    let s = c in
    let t = s.args.t.now in
    let f = s.args.f.now in
    (roomy _ _ _ _ s.requires.1 (rw entries-count at s.requires.2.less), writable _ _ s.requires.0 _ s.requires.2.dest-named, class-known t f s.requires.0 s.args.v.0 s.requires.2.value-named _ (sym (ap remat_of c.in-CheaperThanLoad.is) ∙ c.can_rematerialize.ensures))

pub returns-in-Never : goal.returns-in-Never
returns-in-Never c =
    let s = c in
    let f = s.args.f.now in
    not-remat _ _ _ _ s.requires.0 s.requires.1 _ _ s.requires.2 (rw (← c.value_bank-bank.ensures) (sym c.of_bank.ensures ∙ not-false _ c.if-not-of_bank.false-raw)) (never-remat (function_of f) s.args.v.0 (sym (ap remat_of c.in-Never.is) ∙ c.can_rematerialize.ensures))

pub returns-in-CheaperThanMove : goal.returns-in-CheaperThanMove
returns-in-CheaperThanMove c =
    let s = c in
    let f = s.args.f.now in
    let q = remat-known (function_of f) s.args.v.0 _ (sym (ap remat_of c.in-CheaperThanMove.is) ∙ c.can_rematerialize.ensures) in
    added-remat _ _ _ _ s.requires.0 s.requires.1 _ s.args.dest.0 s.args.v.0 s.requires.2 (rw (← c.value_bank-bank.ensures) (sym c.of_bank.ensures ∙ not-false _ c.if-not-of_bank.false-raw)) q.0 q.2 _ _ _ c.new_remat_in.ensures

pub returns-in-CheaperThanLoad : goal.returns-in-CheaperThanLoad
returns-in-CheaperThanLoad c =
    let s = c in
    let f = s.args.f.now in
    let q = remat-known (function_of f) s.args.v.0 _ (sym (ap remat_of c.in-CheaperThanLoad.is) ∙ c.can_rematerialize.ensures) in
    added-remat _ _ _ _ s.requires.0 s.requires.1 _ s.args.dest.0 s.args.v.0 s.requires.2 (rw (← c.value_bank-bank.ensures) (sym c.of_bank.ensures ∙ not-false _ c.if-not-of_bank.false-raw)) q.0 q.2 _ _ _ c.new_remat_in-in-CheaperThanLoad.ensures

use borrow.Author.Tests.{not-true, not-false}
use mathlib.Core.Path.{refl, sym, ◌∙◌}
use Rattle.frame_c.proofs.Calling.{next_low, formula-late, formula-open, formula-refused}
use Rattle.frame_calls.specs.Given.{opened_in}
use borrow.Author.Rules.{rules}
use Rattle.frame_c.proofs.parallel_moves_frame_formula_5.Goals as goal

pub returns-then-not-opens_next : goal.returns-then-not-opens_next
returns-then-not-opens_next c =
    let start = c in
    formula-late start.args.frame.now _ start.args.formula (opened_in start.args.frame.now start.args.formula start.args.kept_evictions start.args.bytes.now) start.args.target.now _ start.args.function.now _ start.args.cache.now _ (sym c.opens_next.ensures ∙ not-true _ c.if-not-opens_next.true-raw) refl refl refl refl

pub note_open-requires : goal.note_open-requires
note_open-requires c =
    let start = c in
    next_low start.args.frame.now start.args.formula start.requires (sym c.opens_next.ensures ∙ not-false _ c.if-not-opens_next.false-raw)

pub returns-in-Yes : goal.returns-in-Yes
returns-in-Yes c =
    let start = c in
    let open_in = c.open_in in
    formula-open start.args.frame.now c.note_open.new.frame start.args.formula (opened_in start.args.frame.now start.args.formula start.args.kept_evictions start.args.bytes.now) start.args.target.now open_in.new.t start.args.function.now open_in.new.f start.args.cache.now open_in.new.cache
    (sym c.opens_next.ensures ∙ not-false _ c.if-not-opens_next.false-raw) open_in.new.frame (rw c.in-Yes.is at open_in.ensures) c.note_open.ensures

pub returns-in-Refused : goal.returns-in-Refused
returns-in-Refused c =
    let start = c in
    let open_in = c.open_in in
    formula-refused start.args.frame.now open_in.new.frame start.args.formula (opened_in start.args.frame.now start.args.formula start.args.kept_evictions start.args.bytes.now) start.args.target.now open_in.new.t start.args.function.now open_in.new.f start.args.cache.now open_in.new.cache
    (sym c.opens_next.ensures ∙ not-false _ c.if-not-opens_next.false-raw) _ (rw c.in-Refused.is at open_in.ensures)

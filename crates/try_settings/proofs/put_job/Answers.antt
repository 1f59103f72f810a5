-- `put_job` meets its contract: the arguments, the opening, then both settings.
use native.Mathlib.Omega.{arith}
use mathlib.Core.Path.{sym, ◌∙◌}
use borrow.Author.Rules.{rules}
use borrow.Author.Tests.{not-true, not-false}
use Rattle.job_tries.specs.Tries.{function_asked}
use Rattle.job_tries.proofs.Opened.{known}
use Rattle.try_settings.proofs.Printing.{refused-room, put-within, fits-few, printed-unfit, printed-refused, printed}
use Rattle.try_settings.proofs.put_job.Goals as goal

pub put_refused-requires : goal.put_refused-requires
put_refused-requires c = refused-room c.args.out.now 2 c.requires (omega arith)

pub returns-then-not-arguments_fit : goal.returns-then-not-arguments_fit
returns-then-not-arguments_fit c =
    let o = c.put_refused in
    record { printed = (printed-unfit c.args.p c.args.seed c.args.patches c.args.s.now c.args.out.now o.new.out o.result (sym c.arguments_fit.ensures ∙ not-true _ c.if-not-arguments_fit.true-raw) o.ensures, put-within _ _ _ _ o.ensures); anything = (tt, tt, tt, tt, tt, tt, tt, tt, tt, tt, tt, tt, tt, tt) }

pub put_refused-requires-in-Refused : goal.put_refused-requires-in-Refused
put_refused-requires-in-Refused c = refused-room c.args.out.now c.in-Refused.k c.requires (omega arith)

pub overflow_cast-seed : goal.overflow_cast-seed
overflow_cast-seed c = omega (arith, (fits-few c.args.p c.args.seed c.args.patches c.args.s.now (sym c.arguments_fit.ensures ∙ not-false _ c.if-not-arguments_fit.false-raw)).0)

pub put_tried-requires : goal.put_tried-requires
put_tried-requires c =
    let o = c.read_function in
    let k = known c.args.p (function_asked c.args.p c.args.s.now) o.new.t o.new.f (rw c.in-Yes.is at o.ensures.function_at) in
    (k.0, k.1, (fits-few c.args.p c.args.seed c.args.patches c.args.s.now (sym c.arguments_fit.ensures ∙ not-false _ c.if-not-arguments_fit.false-raw)).1, c.requires)

pub returns-in-Refused : goal.returns-in-Refused
returns-in-Refused c =
    let o = c.read_function in
    let u = c.put_refused-in-Refused in
    record { printed = (printed-refused c.args.p c.args.seed c.args.patches c.args.s.now c.args.out.now u.new.out u.result (sym c.arguments_fit.ensures ∙ not-false _ c.if-not-arguments_fit.false-raw) _ o.new.t o.new.f (rw c.in-Refused.is at o.ensures.function_at) u.ensures, put-within _ _ _ _ u.ensures); anything = (tt, tt, tt, tt, tt, tt, tt, tt, tt, tt, tt, tt, tt, tt) }

pub returns-in-Yes : goal.returns-in-Yes
returns-in-Yes c =
    let o = c.read_function in
    let u = c.put_tried in
    record { printed = (printed c.args.p c.args.seed c.args.patches c.args.s.now c.args.out.now u.new.out u.result (sym c.arguments_fit.ensures ∙ not-false _ c.if-not-arguments_fit.false-raw) o.new.t o.new.f (rw c.in-Yes.is at o.ensures.function_at) u.ensures.printed_both, put-within _ _ _ _ u.ensures.printed_both.3); anything = (tt, tt, tt, tt, tt, tt, tt, tt, tt, tt, tt, tt, tt, tt) }

-- `put_job` meets its contract: the opening is refused, or the run counts are, or the patches are priced.
use mathlib.Core.Path.{◌≡◌, sym, ◌∙◌}
use native.Mathlib.Omega.{arith}
use borrow.Author.Rules.{rules}
use borrow.Author.Tests.{not-true, not-false}
use Rattle.price_job.proofs.Opened.{text-refused, prices-within, text-unfit, text-fit, refused-room}
use Rattle.price_job.proofs.put_job.Goals as goal

pub put_refused-requires : goal.put_refused-requires
put_refused-requires c = let s = c in refused-room _ _ s.requires.1 (search rules)

pub put_refused-requires-then-not-runs_fit : goal.put_refused-requires-then-not-runs_fit
put_refused-requires-then-not-runs_fit c = let s = c in refused-room _ 2 s.requires.1 (omega arith)

pub returns-then-not-runs_fit : goal.returns-then-not-runs_fit
returns-then-not-runs_fit c =
    let s = c in
    let j = c.read_priced_opening in
    let h = rw c.in-Is.is at j.ensures in
    record { put = rw (text-unfit s.args.p s.args.runs.now s.args.kept_evictions s.args.s.now j.new.t j.new.f _ _ h (sym c.runs_fit.ensures ∙ not-true _ c.if-not-runs_fit.true-raw)) c.put_refused-then-not-runs_fit.ensures; anything = (tt, tt, tt, tt, tt, tt, tt, tt, tt, tt, tt, tt, tt, tt) }

pub put_priced-requires : goal.put_priced-requires
put_priced-requires c =
    let s = c in
    let j = c.read_priced_opening in
    (prices-within s.args.p s.args.runs.now s.args.kept_evictions s.args.s.now j.new.t j.new.f _ _ (rw c.in-Is.is at j.ensures), s.requires.0, s.requires.1)

pub returns-in-Refused : goal.returns-in-Refused
returns-in-Refused c =
    let s = c in
    let j = c.read_priced_opening in
    let h = rw c.in-Refused.is at j.ensures in
    record { put = rw (text-refused s.args.p s.args.runs.now s.args.kept_evictions s.args.s.now j.new.t j.new.f _ h) c.put_refused.ensures; anything = (tt, tt, tt, tt, tt, tt, tt, tt, tt, tt, tt, tt, tt, tt) }

pub returns-else-not-runs_fit : goal.returns-else-not-runs_fit
returns-else-not-runs_fit c =
    let s = c in
    let j = c.read_priced_opening in
    let h = rw c.in-Is.is at j.ensures in
    record { put = rw (text-fit s.args.p s.args.runs.now s.args.kept_evictions s.args.s.now j.new.t j.new.f _ _ h (sym c.runs_fit.ensures ∙ not-false _ c.if-not-runs_fit.false-raw)) c.put_priced.ensures.put; anything = (tt, tt, tt, tt, tt, tt, tt, tt, tt, tt, tt, tt, tt, tt) }

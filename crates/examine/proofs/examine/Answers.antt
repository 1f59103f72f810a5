-- `examine` meets its contract: the parts in their order.
use mathlib.Core.Path.{sym, ap, ◌∙◌}
use mathlib.Core.Bool.{true, false}
use borrow.Author.Tests.{not-true, not-false}
use Rattle.reginfo.specs.Table.{reg_info_of}
use Rattle.function.specs.Table.{function_of}
use Rattle.rules.specs.Patch.{Sorted}
use Rattle.entries.specs.Table.{sorted_of}
use Rattle.examine_run.proofs.Laws.{value_there}
use Rattle.examine.proofs.Answers.{answer-24, says-no-start, says-not-done}
use Rattle.examine.proofs.Given.{kept_of, done-so}
use Rattle.examine.proofs.examine.Goals as goal

pub returns-then-not-all_named : goal.returns-then-not-all_named
returns-then-not-all_named c = let s = c in (λ p fr so. sym (answer-24 (reg_info_of s.args.t.now) (function_of s.args.f.now) s.args.most p s.args.list.now (sym c.all_named.ensures ∙ not-true c.all_named.result c.if-not-all_named.true-raw)), tt, tt, tt, tt, tt)

pub tie-requires : goal.tie-requires
tie-requires c = let s = c in kept_of s.args.t.now s.args.f.now s.args.e.now s.args.w.now s.requires.0 s.requires.1

pub no_start-requires : goal.no_start-requires
no_start-requires c = let s = c in (s.requires.0, c.tie.ensures, value_there s.args.t.now s.args.f.now s.requires.0 s.args.e.now s.requires.1.sorted)

pub returns-then-no_start : goal.returns-then-no_start
returns-then-no_start c = let s = c in (λ p fr so. sym (says-no-start (reg_info_of s.args.t.now) (function_of s.args.f.now) s.args.most p s.args.list.now (sym c.all_named.ensures ∙ not-false c.all_named.result c.if-not-all_named.false-raw) (sorted_of s.args.e.now).moves (ap (λ (a : Sorted). a.moves) so) (sym c.no_start.ensures ∙ c.if-no_start.true)), tt, tt, tt, tt, tt)

pub returns-then-not-run : goal.returns-then-not-run
returns-then-not-run c = let s = c in (λ p fr so. sym (says-not-done (reg_info_of s.args.t.now) (function_of s.args.f.now) s.args.most p s.args.list.now (sym c.all_named.ensures ∙ not-false c.all_named.result c.if-not-all_named.false-raw) (sorted_of s.args.e.now).moves (ap (λ (a : Sorted). a.moves) so) (sym c.no_start.ensures ∙ c.if-no_start.false) _ c.lay.ensures.0 (c.run.ensures.0 ∙ rw (not-true c.run.result c.if-not-run.true-raw))), tt, tt, tt, tt, tt)

pub returns-then-ends_right : goal.returns-then-ends_right
returns-then-ends_right c = let s = c in (λ p fr so. sym (done-so s.args.t.now s.args.f.now s.requires.0 s.args.e.now s.args.w.now s.args.free.now s.requires.1 s.args.most p fr so s.args.list.now (sym c.all_named.ensures ∙ not-false c.all_named.result c.if-not-all_named.false-raw) (sym c.no_start.ensures ∙ c.if-no_start.false) _ _ _ c.lay.ensures.0 c.lay-2.ensures.0 (c.run.ensures.0 ∙ rw (not-false c.run.result c.if-not-run.false-raw)) true (sym c.ends_right.ensures.0 ∙ c.if-ends_right.true)), tt, tt, tt, tt, tt)

pub returns : goal.returns
returns c = let s = c in (λ p fr so. sym (done-so s.args.t.now s.args.f.now s.requires.0 s.args.e.now s.args.w.now s.args.free.now s.requires.1 s.args.most p fr so s.args.list.now (sym c.all_named.ensures ∙ not-false c.all_named.result c.if-not-all_named.false-raw) (sym c.no_start.ensures ∙ c.if-no_start.false) _ _ _ c.lay.ensures.0 c.lay-2.ensures.0 (c.run.ensures.0 ∙ rw (not-false c.run.result c.if-not-run.false-raw)) false (sym c.ends_right.ensures.0 ∙ c.if-ends_right.false)), tt, tt, tt, tt, tt)

use mathlib.Core.Path.{◌∙◌}
use native.Mathlib.Omega.{arith}
use borrow.Author.Tests.{not-true, not-false}
use Rattle.entity.proofs.Laws.{all-at}
use Rattle.reginfo.specs.Table.{reg_info_of}
use Rattle.function.specs.Table.{function_of}
use Rattle.entries.specs.Table.{sorted_of}
use Rattle.examine_rules.specs.Examine.{generic_content}
use Rattle.cells.specs.Cells.{memory_of}
use Rattle.examine_words.specs.Named.{named_in}
use Rattle.examine_run.proofs.Laws.{ran-no, ran-next, ran-end}
use Rattle.examine_run.proofs.run.Goals as goal

pub step-requires : goal.step-requires
step-requires c = let s = c in let l = c.loop-word in (s.requires.0, s.requires.1, l.invariant.1, s.requires.3, all-at (named_in (reg_info_of s.args.t.now) (function_of s.args.f.now) s.args.most) s.args.list.now l.word-index 0 s.requires.4 c.loop-word-test.true)

pub returns-then-not-step : goal.returns-then-not-step
returns-then-not-step c = let s = c in let l = c.loop-word in let t = reg_info_of s.args.t.now in let f = function_of s.args.f.now in let g = generic_content t f (sorted_of s.args.e.now).moves in (l.invariant.0 ∙ ran-no t f g s.args.list.now l.word-index c.loop-word-test.true (memory_of l.c) (c.step.ensures.0 ∙ rw (not-true c.step.result c.if-not-step.true-raw)), c.step.ensures.1, tt)

pub loop-word-preserved : goal.loop-word-preserved
loop-word-preserved c = let s = c in let l = c.loop-word in let t = reg_info_of s.args.t.now in let f = function_of s.args.f.now in let g = generic_content t f (sorted_of s.args.e.now).moves in (l.invariant.0 ∙ ran-next t f g s.args.list.now l.word-index c.loop-word-test.true (memory_of l.c) _ (c.step.ensures.0 ∙ rw (not-false c.step.result c.if-not-step.false-raw)), c.step.ensures.1, omega arith)

pub returns : goal.returns
returns c = let s = c in let l = c.loop-word in let t = reg_info_of s.args.t.now in let f = function_of s.args.f.now in let g = generic_content t f (sorted_of s.args.e.now).moves in (l.invariant.0 ∙ ran-end t f g s.args.list.now l.word-index (memory_of l.c) c.loop-word-test.false, l.invariant.1, tt)

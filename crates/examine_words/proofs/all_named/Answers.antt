use mathlib.Core.Path.{sym, ◌∙◌}
use native.Mathlib.Omega.{arith}
use borrow.Author.Tests.{not-true, not-false}
use Rattle.reginfo.specs.Table.{reg_info_of}
use Rattle.function.specs.Table.{function_of}
use Rattle.examine_words.specs.Named.{named_in}
use Rattle.examine_words.proofs.Laws.{all-next, all_end}
use Rattle.examine_words.proofs.all_named.Goals as goal

pub returns-then-not-is_named : goal.returns-then-not-is_named
returns-then-not-is_named c = let s = c in let l = c.loop-word in let p = named_in (reg_info_of s.args.t.now) (function_of s.args.f.now) s.args.most in sym (l.invariant.0 ∙ all-next p s.args.list.now l.word-index 0 c.loop-word-test.true ∙ rw (← c.is_named.ensures, not-true c.is_named.result c.if-not-is_named.true-raw))

pub loop-word-preserved : goal.loop-word-preserved
loop-word-preserved c = let s = c in let l = c.loop-word in let p = named_in (reg_info_of s.args.t.now) (function_of s.args.f.now) s.args.most in (l.invariant.0 ∙ all-next p s.args.list.now l.word-index 0 c.loop-word-test.true ∙ rw (← c.is_named.ensures, not-false c.is_named.result c.if-not-is_named.false-raw), omega arith)

pub returns : goal.returns
returns c = let s = c in let l = c.loop-word in sym (l.invariant.0 ∙ all_end (named_in (reg_info_of s.args.t.now) (function_of s.args.f.now) s.args.most) s.args.list.now l.word-index c.loop-word-test.false)

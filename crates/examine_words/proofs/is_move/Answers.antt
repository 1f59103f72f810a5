-- `is_move` meets its contract: its places, its value, its word.
use mathlib.Core.Path.{sym, ◌∙◌}
use native.Mathlib.Omega.{arith}
use borrow.Author.Tests.{not-true, not-false, ltb-true}
use Rattle.function.specs.Function.{num_values}
use Rattle.function.specs.Table.{function_of}
use Rattle.examine_rules.specs.Examine.{named}
use Rattle.examine_words.proofs.Laws.{values-fit, code-low}
use Rattle.examine_words.proofs.is_move.Goals as goal

pub returns-then-not-names : goal.returns-then-not-names
unfolding named
returns-then-not-names c = rw (← c.names.ensures, not-true c.names.result c.if-not-names.true-raw)

pub returns-then-not-names-2 : goal.returns-then-not-names-2
unfolding named
returns-then-not-names-2 c = rw (← c.names.ensures, not-false c.names.result c.if-not-names.false-raw, ← c.names-2.ensures, not-true c.names-2.result c.if-not-names-2.true-raw)

pub returns-then-not-has_value : goal.returns-then-not-has_value
unfolding named
returns-then-not-has_value c = rw (← c.names.ensures, not-false c.names.result c.if-not-names.false-raw, ← c.names-2.ensures, not-false c.names-2.result c.if-not-names-2.false-raw, ← c.has_value.ensures, not-true c.has_value.result c.if-not-has_value.true-raw)

pub move_word-requires : goal.move_word-requires
move_word-requires c = let s = c in record { to-small = code-low s.args.t.now s.args.f.now s.requires.0 s.args.most s.requires.1 s.args.to.0 (sym c.names.ensures ∙ not-false c.names.result c.if-not-names.false-raw); from-small = code-low s.args.t.now s.args.f.now s.requires.0 s.args.most s.requires.1 s.args.from.0 (sym c.names-2.ensures ∙ not-false c.names-2.result c.if-not-names-2.false-raw); value-small = omega (arith, ltb-true s.args.v.0 (num_values (function_of s.args.f.now)) (sym c.has_value.ensures ∙ not-false c.has_value.result c.if-not-has_value.false-raw), values-fit s.args.t.now s.args.f.now s.requires.0 s.args.most s.requires.1) }

pub returns : goal.returns
unfolding named
returns c = rw (← c.names.ensures, not-false c.names.result c.if-not-names.false-raw, ← c.names-2.ensures, not-false c.names-2.result c.if-not-names-2.false-raw, ← c.has_value.ensures, not-false c.has_value.result c.if-not-has_value.false-raw, c.move_word.ensures)

-- `count_at` meets its contract: the tests of a head, in their order.
use mathlib.Core.Path.{sym, ap}
use borrow.Author.Tests.{eq-eqb, ne_eqb}
use Rattle.edges.specs.Patches.{counted}
use Rattle.edges.proofs.Laws.{no_word, no-head, too_many, too_far, is-headed}
use Rattle.edges.proofs.count_at.Goals as goal

pub returns-then-words-at : goal.returns-then-words-at
returns-then-words-at c = let a = c.args in ap counted (sym (no_word a.words.now a.at c.if-words-at.true))

pub returns-then-word-ne0 : goal.returns-then-word-ne0
returns-then-word-ne0 c =
    let a = c.args in
    ap counted (sym (no-head a.words.now a.at c.if-words-at.false (ne_eqb _ 0 c.if-word-ne0.true)))

pub returns-then-count-gt1024 : goal.returns-then-count-gt1024
returns-then-count-gt1024 c =
    let a = c.args in
    ap counted (sym (too_many a.words.now a.at c.if-words-at.false (eq-eqb _ 0 c.if-word-ne0.false) c.if-count-gt1024.true))

pub returns-then-words-at-2 : goal.returns-then-words-at-2
returns-then-words-at-2 c =
    let a = c.args in
    ap counted (sym (too_far a.words.now a.at c.if-words-at.false (eq-eqb _ 0 c.if-word-ne0.false) c.if-count-gt1024.false c.if-words-at-2.true))

pub returns : goal.returns
returns c =
    let a = c.args in
    ap counted (sym (is-headed a.words.now a.at c.if-words-at.false (eq-eqb _ 0 c.if-word-ne0.false) c.if-count-gt1024.false c.if-words-at-2.false))

-- `choose` meets its contract.
use mathlib.Core.Path.{sym, ◌∙◌}
use borrow.Author.Rules.{rules}
use borrow.Author.Tests.{not-false, not-true, lt-ltb, le-ltb}
use Rattle.cheaper.specs.Cheaper.{refused19, choice_of}
use Rattle.cheaper.proofs.choose.Goals as goal

pub returns-then-not-in_range : goal.returns-then-not-in_range
unfolding choice_of refused19
returns-then-not-in_range c = rw (sym c.in_range.ensures ∙ not-true _ c.if-not-in_range.true-raw)

pub returns-then-first-gt65536 : goal.returns-then-first-gt65536
unfolding choice_of refused19
returns-then-first-gt65536 c = rw (sym c.in_range.ensures ∙ not-false _ c.if-not-in_range.false-raw, lt-ltb _ _ c.if-first-gt65536.true)

pub returns-then-second-gt65536 : goal.returns-then-second-gt65536
unfolding choice_of refused19
returns-then-second-gt65536 c = rw (sym c.in_range.ensures ∙ not-false _ c.if-not-in_range.false-raw, le-ltb _ _ c.if-first-gt65536.false, lt-ltb _ _ c.if-second-gt65536.true)

pub total-a-requires : goal.total-a-requires
total-a-requires c = (sym c.in_range.ensures ∙ not-false _ c.if-not-in_range.false-raw, c.if-first-gt65536.false)

pub total-b-requires : goal.total-b-requires
total-b-requires c = (sym c.in_range.ensures ∙ not-false _ c.if-not-in_range.false-raw, c.if-second-gt65536.false)

pub returns-then-b-a : goal.returns-then-b-a
unfolding choice_of refused19
returns-then-b-a c =
    let few = c.if-second-gt65536.false in
    rw (
      sym c.in_range.ensures ∙ not-false _ c.if-not-in_range.false-raw,
      le-ltb _ _ c.if-first-gt65536.false,
      le-ltb _ _ few,
      ← c.total-a.ensures,
      ← c.total-b.ensures,
      lt-ltb _ _ c.if-b-a.true,
    )

pub returns : goal.returns
unfolding choice_of refused19
returns c =
    rw (
      sym c.in_range.ensures ∙ not-false _ c.if-not-in_range.false-raw,
      le-ltb _ _ c.if-first-gt65536.false,
      le-ltb _ _ c.if-second-gt65536.false,
      ← c.total-a.ensures,
      ← c.total-b.ensures,
      le-ltb _ _ c.if-b-a.false,
    )

-- `same_unit` meets its contract: its word, then its list.
use mathlib.Core.Path.{sym, ap₂, ◌∙◌}
use native.Mathlib.Omega.{arith}
use borrow.Author.Tests.{eq-eqb}
use Rattle.entity.specs.Logic.{and}
use Rattle.cells.specs.Cells.{memory_of}
use Rattle.examine.proofs.Laws.{untouched-same}
use Rattle.examine.proofs.same_unit.Goals as goal

pub returns-then-untouched : goal.returns-then-untouched
returns-then-untouched c =
    let s = c in
    let u = s.args.u in (
      sym
          (ap₂
          and
          (eq-eqb ((memory_of s.args.c.now).word u) ((memory_of s.args.s.now).word u) (sym c.word_at.ensures ∙ c.if-word_at.false ∙ c.word_at-2.ensures))
          (untouched-same s.args.c.now s.args.s.now u (omega (arith, s.requires.2)) (sym c.untouched.ensures ∙ c.if-untouched.true))),
      tt,
      tt,
    )

-- `only_remats` meets its contract.
use mathlib.Core.Path.{sym, ◌∙◌}
use borrow.Author.Tests.{eq-eqb, ne_eqb}
use Rattle.remats.proofs.only_remats.Goals as goal

pub returns-then-num_kept-eq0 : goal.returns-then-num_kept-eq0
returns-then-num_kept-eq0 c = rw (eq-eqb _ 0 (sym c.num_kept.ensures ∙ c.if-num_kept-eq0.true), ← c.num_remats_with_scratch.ensures)

pub returns : goal.returns
returns c = rw (ne_eqb _ 0 (λ q. c.if-num_kept-eq0.false (c.num_kept.ensures ∙ q)))

-- Meets its contract: what was chosen decides.
use mathlib.Core.Path.{sym, ap, ◌∙◌}
use Rattle.price_c.specs.Chosen.{choice_number}
use Rattle.price_c.proofs.parallel_moves_cheaper_5.Goals as goal

pub returns-in-First : goal.returns-in-First
returns-in-First c = ap choice_number (sym c.in-First.is ∙ (rw c.prices_of.ensures at c.choose.ensures))

pub returns-in-Second : goal.returns-in-Second
returns-in-Second c = ap choice_number (sym c.in-Second.is ∙ (rw c.prices_of.ensures at c.choose.ensures))

pub returns-in-Refused : goal.returns-in-Refused
returns-in-Refused c = ap choice_number (sym c.in-Refused.is ∙ (rw c.prices_of.ensures at c.choose.ensures))

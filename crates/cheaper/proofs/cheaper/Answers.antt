-- `cheaper` meets its contract: what was chosen decides.
use mathlib.Core.Path.{refl, sym, ◌∙◌}
use borrow.Author.Rules.{rules}
use Rattle.cheaper.proofs.cheaper.Goals as goal

pub returns-in-First : goal.returns-in-First
returns-in-First c = rw (sym c.choose.ensures ∙ c.in-First.is) (refl, refl)

pub returns-in-Second : goal.returns-in-Second
returns-in-Second c = rw (sym c.choose.ensures ∙ c.in-Second.is) (refl, refl)

pub returns-in-Refused : goal.returns-in-Refused
returns-in-Refused c = rw (sym c.choose.ensures ∙ c.in-Refused.is) (refl, refl, refl)

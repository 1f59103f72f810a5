use mathlib.Core.Path.{sym, ◌∙◌}
use Rattle.job_patch.proofs.Adding.{place-named, place-missing, place-refused}
use Rattle.job_patch.proofs.read_place.Goals as goal

pub returns-then-names_place : goal.returns-then-names_place
returns-then-names_place c = place-named _ _ _ _ _ _ (rw c.in-Is.is at c.read.ensures) (sym c.if-names_place.true ∙ c.names_place.ensures)

pub returns-in-Refused : goal.returns-in-Refused
returns-in-Refused c = place-refused _ _ _ _ _ (rw c.in-Refused.is at c.read.ensures)

pub returns-else-names_place : goal.returns-else-names_place
returns-else-names_place c = place-missing _ _ _ _ _ _ (rw c.in-Is.is at c.read.ensures) (sym c.if-names_place.false ∙ c.names_place.ensures)

-- `fits` meets its contract: memory takes any length, another register its own.
use mathlib.Core.Path.{sym, ◌∙◌}
use Rattle.machine.specs.Machine.{fits}
use Rattle.cells.proofs.fits.Goals as goal

pub returns-then-is_memory : goal.returns-then-is_memory
unfolding fits
returns-then-is_memory c = λ f. rw (sym c.is_memory.ensures ∙ c.if-is_memory.true)

pub returns : goal.returns
unfolding fits
returns c = λ f. rw (sym c.is_memory.ensures ∙ c.if-is_memory.false, c.num_place_units.ensures)

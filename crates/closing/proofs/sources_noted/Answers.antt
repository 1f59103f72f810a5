use mathlib.Core.Path.{refl, sym, ◌∙◌}
use Rattle.scratch.specs.State.{F}
use Rattle.closing.proofs.sources_noted.Goals as goal

pub returns-then-is_noted : goal.returns-then-is_noted
returns-then-is_noted c = let noted = sym c.is_noted.ensures ∙ c.if-is_noted.true in (refl, noted, λ f h. h noted)

pub returns : goal.returns
returns c = (c.set_noted.ensures.0, c.set_noted.ensures.1, λ f h. c.note_sources.ensures (F f))

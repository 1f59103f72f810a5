-- `visit_unless_memory` meets its contract: skipped, or visited.
use mathlib.Core.Path.{sym, ◌∙◌}
use Rattle.visiting.proofs.Passing.{memory-skipped, other-visited}
use Rattle.visiting.proofs.visit_unless_memory.Goals as goal

pub has_memory-requires : goal.has_memory-requires
has_memory-requires c = (c.requires.0.ready.kept, c.requires.1)

pub returns-then-has_memory : goal.returns-then-has_memory
returns-then-has_memory c = memory-skipped _ _ _ _ _ _ _ (sym c.has_memory.ensures ∙ c.if-has_memory.true)

pub visit-requires : goal.visit-requires
visit-requires c = c.requires

pub returns : goal.returns
returns c = other-visited _ _ _ _ _ _ _ _ _ (sym c.has_memory.ensures ∙ c.if-has_memory.false) c.visit.ensures

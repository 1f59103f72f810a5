-- `scratch::both_memory` meets its contract.
use mathlib.Core.Path.{sym, ◌∙◌}
use Rattle.scratch.proofs.moving.both_memory.Goals as goal

pub returns-then-is_memory : goal.returns-then-is_memory
returns-then-is_memory c = rw (sym c.is_memory.ensures ∙ c.if-is_memory.true) c.is_memory-then-is_memory.ensures

pub returns : goal.returns
returns c = rw (sym c.is_memory.ensures ∙ c.if-is_memory.false)

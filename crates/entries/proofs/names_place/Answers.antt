-- `names_place` meets its contract: what the code is read as.
use mathlib.Core.Path.{◌∙◌}
use native.Mathlib.Omega.{arith}
use Rattle.entity.proofs.Laws.{is-named}
use Rattle.entries.proofs.Fates.{few-regs, slots-fit}
use Rattle.entries.proofs.names_place.Goals as goal

pub overflow_cast-regs : goal.overflow_cast-regs
overflow_cast-regs c = let s = c in omega (arith, few-regs s.args.t.now s.args.f.now s.requires)

pub overflow_cast-slots : goal.overflow_cast-slots
overflow_cast-slots c = let s = c in omega (arith, slots-fit s.args.t.now s.args.f.now s.requires)

pub returns : goal.returns
returns c = c.is_some.ensures ∙ rw (← c.num_regs-regs.ensures, ← c.num_slots-slots.ensures) (is-named _ _ c.args.code _ c.read.ensures)

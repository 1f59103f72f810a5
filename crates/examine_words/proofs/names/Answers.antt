-- `names` meets its contract: what the code names.
use mathlib.Core.Path.{◌∙◌}
use native.Mathlib.Omega.{arith}
use Rattle.entity.proofs.Laws.{is-named}
use Rattle.examine_words.proofs.Laws.{few-regs, slots-fit}
use Rattle.examine_words.proofs.names.Goals as goal

pub overflow_cast-regs : goal.overflow_cast-regs
overflow_cast-regs c = let s = c in omega (arith, c.num_regs-regs.ensures, few-regs s.args.t.now s.args.f.now s.requires.0 s.args.most s.requires.1)

pub overflow_add-slots : goal.overflow_add-slots
overflow_add-slots c = let s = c in omega (arith, c.num_slots.ensures, slots-fit s.args.t.now s.args.f.now s.requires.0 s.args.most s.requires.1)

pub overflow_cast-slots : goal.overflow_cast-slots
overflow_cast-slots c = let s = c in omega (arith, c.num_slots.ensures, slots-fit s.args.t.now s.args.f.now s.requires.0 s.args.most s.requires.1)

pub returns : goal.returns
returns c = c.is_some.ensures ∙ rw (← c.num_regs-regs.ensures, ← c.num_slots.ensures) (is-named _ _ c.args.p.0 _ c.read.ensures)

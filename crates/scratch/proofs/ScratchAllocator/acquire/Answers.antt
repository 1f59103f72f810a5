-- `scratch::ScratchAllocator::acquire` meets its contract.
use mathlib.Core.Path.{refl}
use native.Mathlib.Omega.{arith}
use Rattle.function.proofs.Laws.{few-slots}
use Rattle.scratch.specs.State.{made_of}
use Rattle.scratch.proofs.Outcomes.{taken-top, taken-new}
use Rattle.scratch.proofs.ScratchAllocator.acquire.Goals as goal

pub returns-in-Some : goal.returns-in-Some
returns-in-Some c = taken-top _ _ _ _ _ _ _ _ c.requires.2 (rw c.in-Some.is at c.acquire.ensures)

pub overflow_add-n : goal.overflow_add-n
overflow_add-n c = omega (arith, c.from.ensures, c.made.ensures, c.num_slots.ensures, c.requires.2.made, few-slots _ _ c.requires.0.function)

pub overflow_add-self : goal.overflow_add-self
unfolding made_of
overflow_add-self c = omega (arith, c.requires.2.made)

pub overflow_cast-result : goal.overflow_cast-result
overflow_cast-result c = omega (arith, c.from.ensures, c.made.ensures, c.num_slots.ensures, c.requires.2.made, few-slots _ _ c.requires.0.function)

pub returns : goal.returns
returns c = taken-new _ _ _ _ _ _ _ _ _ (few-slots _ _ c.requires.0.function) c.requires.2 (rw c.in_default.is at c.acquire.ensures) (omega (arith, c.from.ensures, c.made.ensures, c.num_slots.ensures)) refl

use mathlib.Core.Path.{sym, ap, ◌∙◌}
use native.Mathlib.Omega.{arith}
use Rattle.scratch.specs.State.{owed}
use Rattle.scratch.proofs.Bringing.{held_first, held-second}
use Rattle.scratch.proofs.ScratchAllocator.hold.Goals as goal

pub one-requires : goal.one-requires
one-requires c = c.requires.1

pub two-requires : goal.two-requires
two-requires c = let q = sym c.evicted-e.ensures ∙ c.in-One.is in (c.requires.1, rw q at c.requires.2)

pub returns-in-Nothing : goal.returns-in-Nothing
returns-in-Nothing c = held_first _ _ _ (sym c.evicted-e.ensures ∙ c.in-Nothing.is) c.one.ensures

pub returns-in-One : goal.returns-in-One
returns-in-One c = held-second _ _ _ _ (sym c.evicted-e.ensures ∙ c.in-One.is) c.two.ensures

pub returns-in-Two : goal.returns-in-Two
returns-in-Two c = absurd (omega (arith, ap owed (sym c.evicted-e.ensures ∙ c.in-Two.is), c.requires.0))

use native.Mathlib.Omega.{arith}
use Rattle.scratch.proofs.Packed.{none_in, one_in, two_in}
use Rattle.scratch.proofs.ScratchAllocator.evicted.Goals as goal

pub returns-then-newer-eq0 : goal.returns-then-newer-eq0
returns-then-newer-eq0 c = none_in _ c.if-newer-eq0.true

pub returns-then-older-eq0 : goal.returns-then-older-eq0
returns-then-older-eq0 c = rw c.held_at.ensures (one_in _ _ (omega (arith, c.if-newer-eq0.false)) c.if-older-eq0.true)

pub returns : goal.returns
returns c = rw (c.held_at-2.ensures, c.held_at-3.ensures) (two_in _ _ _ (omega (arith, c.if-newer-eq0.false)) (omega (arith, c.if-older-eq0.false)))

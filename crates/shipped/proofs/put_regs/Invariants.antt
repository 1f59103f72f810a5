-- `put_regs` meets its contract. The invariant: the writes from the start are the writes from here.
use Prim.Native.Nat.{◌-◌}
use mathlib.Core.Path.{◌≡◌}
use Rattle.shipped.specs.Writes.{written, regs_writes}
use Rattle.shipped.proofs.put_regs.Given as goal

abbrev pub invariant-loop-r : goal.invariant-loop-r
invariant-loop-r l = written l.initial.t (regs_writes 0 56) ≡ written l.t (regs_writes l.r (56 - l.r))

use Prim.Native.Nat.{ℕ, ◌+◌, ◌-◌, ◌<◌, ◌≤◌}
use mathlib.Core.Path.{◌≡◌, sym, ◌∙◌}
use mathlib.Core.List.{List}
use native.Mathlib.Omega.{arith}
use Rattle.shipped.specs.Writes.{written, reg_writes, regs_writes}
use Rattle.shipped.proofs.Writes.{regs-step}
use Rattle.shipped.proofs.put_regs.Goals as goal

one-more : (t : List ℕ) (r : ℕ) → r < 56 → written t (regs_writes r (56 - r)) ≡ written (written t (reg_writes r)) (regs_writes (r + 1) (56 - (r + 1)))
one-more t r h = let m : 56 - (r + 1) ≡ 56 - r - 1 = omega arith in rw m (regs-step t r (56 - r) (omega arith))

none-left : (t : List ℕ) (r : ℕ) → 56 ≤ r → written t (regs_writes r (56 - r)) ≡ t
unfolding written regs_writes
none-left t r h = let z : 56 - r ≡ 0 = omega arith in rw z

pub loop-r-preserved : goal.loop-r-preserved
loop-r-preserved c = c.loop-r.invariant ∙ one-more c.loop-r.t c.loop-r.r (omega arith) ∙ rw c.put_reg.ensures

pub returns : goal.returns
returns c = sym (c.loop-r.invariant ∙ none-left c.loop-r.t c.loop-r.r (omega arith))

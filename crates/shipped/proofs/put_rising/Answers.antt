use Prim.Native.Nat.{ℕ, ◌+◌, ◌-◌, ◌<◌, ◌≤◌}
use mathlib.Core.Path.{◌≡◌, sym, ◌∙◌}
use mathlib.Core.List.{List}
use native.Mathlib.Omega.{arith}
use lib.ListN.{set}
use Rattle.shipped.specs.Writes.{written, rising}
use Rattle.shipped.proofs.Writes.{rising_step}
use Rattle.shipped.proofs.put_rising.Goals as goal

module _ (t : List ℕ) (at x n : ℕ) where
  one-more : (i : ℕ) → i < n → written t (rising (at + i) (x + i) (n - i)) ≡ written (set t (at + i) (x + i)) (rising (at + (i + 1)) (x + (i + 1)) (n - (i + 1)))
  one-more i h =
      let a : at + (i + 1) ≡ at + i + 1 = omega arith in
      let b : x + (i + 1) ≡ x + i + 1 = omega arith in
      let m : n - (i + 1) ≡ n - i - 1 = omega arith in
      rw (a, b, m) (rising_step t (at + i) (x + i) (n - i) (omega arith))

  none-left : (i : ℕ) → n ≤ i → written t (rising (at + i) (x + i) (n - i)) ≡ t
  unfolding written rising
  none-left i h = let z : n - i ≡ 0 = omega arith in rw z

pub loop-i-preserved : goal.loop-i-preserved
loop-i-preserved c = rw c.from.ensures (c.loop-i.invariant ∙ one-more c.loop-i.t c.args.at c.args.x c.args.n c.loop-i.i (omega arith))

pub returns : goal.returns
returns c = sym (c.loop-i.invariant ∙ none-left c.loop-i.t c.args.at c.args.x c.args.n c.loop-i.i (omega arith))

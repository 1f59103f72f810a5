use Prim.Native.Nat.{ℕ, ◌+◌, ◌-◌, ◌<◌, ◌≤◌}
use mathlib.Core.Path.{◌≡◌}
use mathlib.Core.List.{List, map}
use native.Mathlib.Omega.{arith}
use lib.ListN.{get_or, length}
use Rattle.entity.specs.Logic.{indices}
use Rattle.reginfo.specs.RegInfo.{num_classes, allocation_order}
use Rattle.reginfo.specs.Table.{reg_info_of, class_at}
use Rattle.reginfo.specs.Refused.{order_total}
use Rattle.reginfo.proofs.Table.{classes-count}
use Rattle.target_limits.proofs.Limits.{order-few-at, total-step}
use Rattle.target_limits.proofs.order_total.Goals as goal

module _ (t : List ℕ) where
  -- the order entries of the classes from i on
  abbrev left : ℕ → ℕ
  left i = order_total (map (class_at t) (indices i (num_classes (reg_info_of t) - i)))

  all-left : left 0 ≡ order_total (reg_info_of t).classes
  unfolding reg_info_of
  all-left = let e : num_classes (reg_info_of t) - 0 ≡ get_or t 8739 0 = omega (arith, classes-count t) in rw e

  one-more : (i : ℕ) → i < num_classes (reg_info_of t) → left i ≡ length (allocation_order (reg_info_of t) i) + left (i + 1)
  one-more i h = let e : num_classes (reg_info_of t) - (i + 1) ≡ num_classes (reg_info_of t) - i - 1 = omega arith in rw e (total-step t i (num_classes (reg_info_of t) - i) (omega arith) h)

  none-left : (i : ℕ) → num_classes (reg_info_of t) ≤ i → left i ≡ 0
  unfolding order_total indices
  none-left i h = let z : num_classes (reg_info_of t) - i ≡ 0 = omega arith in rw z

pub loop-i-init : goal.loop-i-init
loop-i-init c = (omega (arith, all-left c.args.t.now), omega arith)

pub overflow_add-n : goal.overflow_add-n
overflow_add-n c = omega (arith, order-few-at (reg_info_of c.args.t.now) c.requires.1 c.loop-i.i (omega arith))

pub loop-i-preserved : goal.loop-i-preserved
loop-i-preserved c = (
  omega (arith, one-more c.args.t.now c.loop-i.i (omega arith)),
  omega (arith, order-few-at (reg_info_of c.args.t.now) c.requires.1 c.loop-i.i (omega arith)),
)

pub returns : goal.returns
returns c = omega (arith, none-left c.args.t.now c.loop-i.i (omega arith))

use Prim.Native.Nat.{ℕ, ◌+◌, ◌*◌, ◌<◌, ◌≤◌}
use mathlib.Core.Path.{◌≡◌}
use mathlib.Core.Bool.{Bool, true, false}
use mathlib.Core.List.{List}
use Rattle.reginfo.specs.Refused.{all_below, outside_limits}
use mathlib.Core.Path.{sym, ap, ◌∙◌}
use native.Mathlib.Omega.{arith}
use borrow.Author.Rules.{rules}
use lib.ListN.{get_or, length}
use Rattle.entity.specs.Logic.{any_in}
use Rattle.reginfo.specs.RegInfo.{num_regs, num_classes, allocation_order}
use Rattle.reginfo.specs.Table.{reg_info_of}
use Rattle.target_limits.proofs.Limits.{regs-few, counts_of, class-known, members-known, order-listed, list-few, list-known}
use Rattle.target_limits.proofs.Laws.{order-cells}
use Rattle.target_limits.proofs.Walks.{any-cell, no-cell, cell-below}
use Rattle.target_rules.specs.Rules.{no_member}
use Rattle.target_rules.proofs.order_foreign.Goals as goal

-- the order of a class stands within its table, and lists registers of the target
module _ (t : List ℕ) (x : outside_limits (reg_info_of t) ≡ false) (k : ℕ) (h : k < num_classes (reg_info_of t)) where
  few : (k < 64) × (length (allocation_order (reg_info_of t) k) ≤ 512)
  few = (omega (arith, class-known (reg_info_of t) x k h), list-few (reg_info_of t) (allocation_order (reg_info_of t) k) (order-listed (reg_info_of t) x k h))

  low : (i : ℕ) → i < length (allocation_order (reg_info_of t) k) → get_or t (41984 + k * 512 + i) 0 < num_regs (reg_info_of t)
  low i l = cell-below _ t _ _ i (ap (all_below (num_regs (reg_info_of t))) (sym (order-cells t k h)) ∙ list-known (reg_info_of t) (allocation_order (reg_info_of t) k) (order-listed (reg_info_of t) x k h)) l

  module _ (p : ℕ → Bool) where
    some-foreign : (i : ℕ) → i < length (allocation_order (reg_info_of t) k) → p (get_or t (41984 + k * 512 + i) 0) ≡ true → any_in p (allocation_order (reg_info_of t) k) ≡ true
    some-foreign i l e = ap (any_in p) (order-cells t k h) ∙ any-cell p t _ _ i l e

    none-foreign : ((i : ℕ) → i < length (allocation_order (reg_info_of t) k) → p (get_or t (41984 + k * 512 + i) 0) ≡ false) → any_in p (allocation_order (reg_info_of t) k) ≡ false
    none-foreign f = ap (any_in p) (order-cells t k h) ∙ no-cell p t _ _ f

pub order_from-at-requires : goal.order_from-at-requires
order_from-at-requires c = (few c.args.t.now c.requires.0 c.args.c.0 c.requires.1).0

pub order_len-i-end-requires : goal.order_len-i-end-requires
order_len-i-end-requires c = class-known (reg_info_of c.args.t.now) c.requires.0 c.args.c.0 c.requires.1

pub overflow_add-at : goal.overflow_add-at
overflow_add-at c = omega (arith, few c.args.t.now c.requires.0 c.args.c.0 c.requires.1)

pub offset_bounds-t-at : goal.offset_bounds-t-at
offset_bounds-t-at c = omega (arith, few c.args.t.now c.requires.0 c.args.c.0 c.requires.1)

pub bounds-t-at : goal.bounds-t-at
bounds-t-at c = omega (arith, few c.args.t.now c.requires.0 c.args.c.0 c.requires.1)

pub class_has_reg-requires : goal.class_has_reg-requires
class_has_reg-requires c = (
  members-known c.args.t.now c.requires.0 c.requires.2 c.args.c.0 c.requires.1,
  rw c.order_from-at.ensures (omega (arith, low c.args.t.now c.requires.0 c.args.c.0 c.requires.1 c.loop-i.i (omega arith), regs-few (reg_info_of c.args.t.now) (counts_of (reg_info_of c.args.t.now) c.requires.0))),
)

pub returns-then-not-class_has_reg : goal.returns-then-not-class_has_reg
returns-then-not-class_has_reg c = sym (some-foreign c.args.t.now c.requires.0 c.args.c.0 c.requires.1 (no_member (reg_info_of c.args.t.now) c.args.c.0) c.loop-i.i (omega arith) (rw (← c.order_from-at.ensures) (search rules)))

pub returns : goal.returns
returns c = sym (none-foreign c.args.t.now c.requires.0 c.args.c.0 c.requires.1 (no_member (reg_info_of c.args.t.now) c.args.c.0) (λ k h. rw (← c.order_from-at.ensures) (c.loop-i.invariant k (omega arith))))

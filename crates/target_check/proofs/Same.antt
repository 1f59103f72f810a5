-- A table that is the same below the index holds the same target, and keeps the index of the classes before.
use Prim.Native.Nat.{ℕ, zero, suc, ◌+◌, ◌*◌, ◌<◌, ◌≤◌}
use mathlib.Core.Path.{◌≡◌, refl, ◌∙◌}
use mathlib.Core.Bool.{Bool, true, false}
use mathlib.Core.List.{List, map}
use native.Mathlib.Omega.{arith}
use lib.Arith.{lt_of_le-ne}
use lib.Dec.{eqb}
use lib.ListN.{get_or, length}
use borrow.Author.Tests.{eqb-true, eqb-false}
use Rattle.entity.specs.Logic.{indices}
use Rattle.reginfo.specs.RegInfo.{num_banks, num_regs, num_classes, class_members, allocation_order}
use Rattle.reginfo.specs.Table.{bank_at, reg_at, class_at, reg_info_of, IndexedAt, Indexed}
use Rattle.reginfo.specs.Refused.{outside_limits}
use Rattle.reginfo.proofs.Table.{banks-count, regs_count, classes-count, units-length, members-length, order-length}
use Rattle.target_limits.proofs.Limits.{counts_of, banks-few, regs-few, classes-few, list-few, members-listed, order-listed, width_few}
use Rattle.target_check.specs.Checked.{SameBelow}
use Rattle.target_check.proofs.Index.{same-cells, member-low}

-- lists made of the same parts
same_map : {A : Type 0} (f g : ℕ → A) (i n : ℕ) → ((k : ℕ) → k < i + n → f k ≡ g k) → map f (indices i n) ≡ map g (indices i n)
unfolding indices
same_map f g i zero h = refl
same_map f g i (suc n) h = rw (h i (omega arith), same_map f g (i + 1) n (λ k l. h k (omega arith)))

module _ (t u : List ℕ) (h : outside_limits (reg_info_of t) ≡ false) (s : SameBelow 74752 t u) where
  same-bank : (b : ℕ) → b < num_banks (reg_info_of t) → bank_at u b ≡ bank_at t b
  unfolding bank_at
  same-bank b k =
      let few = banks-few (reg_info_of t) (counts_of (reg_info_of t) h) in
      rw (s (8704 + b * 4) (omega arith), s (8705 + b * 4) (omega arith), s (8706 + b * 4) (omega arith))

  same_reg : (r : ℕ) → r < num_regs (reg_info_of t) → reg_at u r ≡ reg_at t r
  unfolding reg_at
  same_reg r k =
      let few = regs-few (reg_info_of t) (counts_of (reg_info_of t) h) in
      let width : get_or t (2 + r * 16) 0 ≤ 8 = rw (units-length t r k) at (width_few (reg_info_of t) h r k) in
      rw (s (r * 16) (omega arith), s (1 + r * 16) (omega arith), s (2 + r * 16) (omega arith), same-cells t u 74752 (8 + r * 16) (get_or t (2 + r * 16) 0) s (omega arith))

  same_class : (c : ℕ) → c < num_classes (reg_info_of t) → class_at u c ≡ class_at t c
  unfolding class_at
  same_class c k =
      let few = classes-few (reg_info_of t) (counts_of (reg_info_of t) h) in
      let ms : get_or t (8194 + c * 8) 0 ≤ 512 = rw (members-length t c k) at (list-few (reg_info_of t) (class_members (reg_info_of t) c) (members-listed (reg_info_of t) h c k)) in
      let os : get_or t (8195 + c * 8) 0 ≤ 512 = rw (order-length t c k) at (list-few (reg_info_of t) (allocation_order (reg_info_of t) c) (order-listed (reg_info_of t) h c k)) in
      rw (s (8192 + c * 8) (omega arith), s (8193 + c * 8) (omega arith), s (8194 + c * 8) (omega arith), s (8195 + c * 8) (omega arith), same-cells t u 74752 (9216 + c * 512) (get_or t (8194 + c * 8) 0) s (omega arith), same-cells t u 74752 (41984 + c * 512) (get_or t (8195 + c * 8) 0) s (omega arith))

  same-banks : map (bank_at u) (indices 0 (get_or t 8737 0)) ≡ map (bank_at t) (indices 0 (get_or t 8737 0))
  same-banks = same_map (bank_at u) (bank_at t) 0 (get_or t 8737 0) (λ b l. same-bank b (rw (banks-count t) (omega arith)))

  same_regs : map (reg_at u) (indices 0 (get_or t 8738 0)) ≡ map (reg_at t) (indices 0 (get_or t 8738 0))
  same_regs = same_map (reg_at u) (reg_at t) 0 (get_or t 8738 0) (λ r l. same_reg r (rw (regs_count t) (omega arith)))

  same-classes : map (class_at u) (indices 0 (get_or t 8739 0)) ≡ map (class_at t) (indices 0 (get_or t 8739 0))
  same-classes = same_map (class_at u) (class_at t) 0 (get_or t 8739 0) (λ c l. same_class c (rw (classes-count t) (omega arith)))

  pub same_target : reg_info_of u ≡ reg_info_of t
  unfolding reg_info_of
  same_target = rw (s 8736 (omega arith), s 8737 (omega arith), s 8738 (omega arith), s 8739 (omega arith), same-banks, same_regs, same-classes)

  -- class i is indexed now, and those before it still are
  module _ (v : List ℕ) (i : ℕ) (k : i < num_classes (reg_info_of t)) (w : SameBelow (74752 + i * 512) u v) where
    index_kept : (c : ℕ) → c < i → IndexedAt u c (length (class_members (reg_info_of t) c)) → IndexedAt v c (length (class_members (reg_info_of t) c))
    index_kept c l x p m =
        let kc : c < num_classes (reg_info_of t) = omega arith in
        let few = classes-few (reg_info_of t) (counts_of (reg_info_of t) h) in
        let short = list-few (reg_info_of t) (class_members (reg_info_of t) c) (members-listed (reg_info_of t) h c kc) in
        let same : get_or v (9216 + c * 512 + p) 0 ≡ get_or t (9216 + c * 512 + p) 0 = w (9216 + c * 512 + p) (omega arith) ∙ s (9216 + c * 512 + p) (omega arith) in
        let low = member-low t h c kc p m in
        rw (same, w (74752 + c * 512 + get_or t (9216 + c * 512 + p) 0) (omega arith), ← s (9216 + c * 512 + p) (omega arith)) (x p m)

    pub index-more : ((c : ℕ) → c < i → IndexedAt u c (length (class_members (reg_info_of t) c))) → IndexedAt v i (length (class_members (reg_info_of t) i)) → (c : ℕ) → c < i + 1 → IndexedAt v c (length (class_members (reg_info_of t) c))
    index-more x y c l = go (eqb c i) refl
      where
        go : (b : Bool) → eqb c i ≡ b → IndexedAt v c (length (class_members (reg_info_of t) c))
        go true e = rw (eqb-true c i e) y
        go false e = let d : c < i = lt_of_le-ne (omega arith) (eqb-false c i e) in index_kept c d (x c d)

  -- every class is indexed
  pub indexed : ((c : ℕ) → c < num_classes (reg_info_of t) → IndexedAt u c (length (class_members (reg_info_of t) c))) → Indexed u
  indexed x c l =
      let k : c < num_classes (reg_info_of t) = rw (classes-count t, ← s 8739 (omega arith)) l in
      let few = classes-few (reg_info_of t) (counts_of (reg_info_of t) h) in
      rw (s (8194 + c * 8) (omega arith), ← members-length t c k) (x c k)

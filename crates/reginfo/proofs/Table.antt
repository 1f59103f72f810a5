-- What the accessors of a target read in its table.
use Prim.Native.Nat.{ℕ, ◌+◌, ◌*◌, ◌<◌}
use mathlib.Core.Path.{◌≡◌, refl, ap, ◌∙◌}
use mathlib.Core.List.{List}
use native.Mathlib.Omega.{arith}
use lib.ListN.{get_or, length}
use Rattle.entity.specs.Logic.{cells}
use Rattle.entity.proofs.Laws.{length-built, get_d-built, length-cells, get_d-cells}
use Rattle.reginfo.specs.RegInfo.{Bank, Reg, Class, no_bank, no_reg, no_class, num_banks, num_regs, num_classes, spillslot_size, top_level_class, stack_to_stack_class, reg_memory, bank_for_reg, reg_units, bank_for_class, class_slots, class_members, allocation_order}
use Rattle.reginfo.specs.Table.{bank_at, reg_at, class_at, reg_info_of}

module _ (t : List ℕ) where
  pub units-count : (reg_info_of t).units ≡ get_or t 8736 0
  unfolding reg_info_of
  units-count = refl

  pub banks-count : num_banks (reg_info_of t) ≡ get_or t 8737 0
  unfolding reg_info_of
  banks-count = length-built (bank_at t) 0 (get_or t 8737 0)

  pub regs_count : num_regs (reg_info_of t) ≡ get_or t 8738 0
  unfolding reg_info_of
  regs_count = length-built (reg_at t) 0 (get_or t 8738 0)

  pub classes-count : num_classes (reg_info_of t) ≡ get_or t 8739 0
  unfolding reg_info_of
  classes-count = length-built (class_at t) 0 (get_or t 8739 0)

  bank-is : (b : ℕ) → b < num_banks (reg_info_of t) → get_or (reg_info_of t).banks b no_bank ≡ bank_at t b
  unfolding reg_info_of
  bank-is b h = get_d-built (bank_at t) 0 (get_or t 8737 0) b no_bank (rw banks-count at h) ∙ ap (bank_at t) (omega arith)

  reg-is : (r : ℕ) → r < num_regs (reg_info_of t) → get_or (reg_info_of t).regs r no_reg ≡ reg_at t r
  unfolding reg_info_of
  reg-is r h = get_d-built (reg_at t) 0 (get_or t 8738 0) r no_reg (rw regs_count at h) ∙ ap (reg_at t) (omega arith)

  class-is : (c : ℕ) → c < num_classes (reg_info_of t) → get_or (reg_info_of t).classes c no_class ≡ class_at t c
  unfolding reg_info_of
  class-is c h = get_d-built (class_at t) 0 (get_or t 8739 0) c no_class (rw classes-count at h) ∙ ap (class_at t) (omega arith)

  module _ (b : ℕ) (h : b < num_banks (reg_info_of t)) where
    pub size_is : spillslot_size (reg_info_of t) b ≡ get_or t (8704 + b * 4) 0
    unfolding spillslot_size bank_at
    size_is = ap (λ (x : Bank). x.size) (bank-is b h)

    pub top-is : top_level_class (reg_info_of t) b ≡ get_or t (8705 + b * 4) 0
    unfolding top_level_class bank_at
    top-is = ap (λ (x : Bank). x.top) (bank-is b h)

    pub stack_is : stack_to_stack_class (reg_info_of t) b ≡ get_or t (8706 + b * 4) 0
    unfolding stack_to_stack_class bank_at
    stack_is = ap (λ (x : Bank). x.stack) (bank-is b h)

  module _ (r : ℕ) (h : r < num_regs (reg_info_of t)) where
    pub memory-is : reg_memory (reg_info_of t) r ≡ get_or t (r * 16) 0
    unfolding reg_memory reg_at
    memory-is = ap (λ (x : Reg). x.memory) (reg-is r h)

    pub reg-bank-is : bank_for_reg (reg_info_of t) r ≡ get_or t (1 + r * 16) 0
    unfolding bank_for_reg reg_at
    reg-bank-is = ap (λ (x : Reg). x.bank) (reg-is r h)

    pub units-are : reg_units (reg_info_of t) r ≡ cells t (8 + r * 16) (get_or t (2 + r * 16) 0)
    unfolding reg_units reg_at
    units-are = ap (λ (x : Reg). x.units) (reg-is r h)

    pub units-length : length (reg_units (reg_info_of t) r) ≡ get_or t (2 + r * 16) 0
    units-length = ap length units-are ∙ length-cells t (8 + r * 16) (get_or t (2 + r * 16) 0)

    pub unit-is : (j : ℕ) → j < length (reg_units (reg_info_of t) r) → get_or (reg_units (reg_info_of t) r) j 0 ≡ get_or t (8 + r * 16 + j) 0
    unit-is j l = ap (λ (x : List ℕ). get_or x j 0) units-are ∙ get_d-cells t (8 + r * 16) (get_or t (2 + r * 16) 0) j (rw units-length at l)

  module _ (c : ℕ) (h : c < num_classes (reg_info_of t)) where
    pub class-bank-is : bank_for_class (reg_info_of t) c ≡ get_or t (8192 + c * 8) 0
    unfolding bank_for_class class_at
    class-bank-is = ap (λ (x : Class). x.bank) (class-is c h)

    pub slots-is : class_slots (reg_info_of t) c ≡ get_or t (8193 + c * 8) 0
    unfolding class_slots class_at
    slots-is = ap (λ (x : Class). x.slots) (class-is c h)

    pub members-are : class_members (reg_info_of t) c ≡ cells t (9216 + c * 512) (get_or t (8194 + c * 8) 0)
    unfolding class_members class_at
    members-are = ap (λ (x : Class). x.members) (class-is c h)

    pub members-length : length (class_members (reg_info_of t) c) ≡ get_or t (8194 + c * 8) 0
    members-length = ap length members-are ∙ length-cells t (9216 + c * 512) (get_or t (8194 + c * 8) 0)

    pub member_is : (p : ℕ) → p < length (class_members (reg_info_of t) c) → get_or (class_members (reg_info_of t) c) p 0 ≡ get_or t (9216 + c * 512 + p) 0
    member_is p l = ap (λ (x : List ℕ). get_or x p 0) members-are ∙ get_d-cells t (9216 + c * 512) (get_or t (8194 + c * 8) 0) p (rw members-length at l)

    pub order_is : allocation_order (reg_info_of t) c ≡ cells t (41984 + c * 512) (get_or t (8195 + c * 8) 0)
    unfolding allocation_order class_at
    order_is = ap (λ (x : Class). x.order) (class-is c h)

    pub order-length : length (allocation_order (reg_info_of t) c) ≡ get_or t (8195 + c * 8) 0
    order-length = ap length order_is ∙ length-cells t (41984 + c * 512) (get_or t (8195 + c * 8) 0)

    pub order-at-is : (p : ℕ) → p < length (allocation_order (reg_info_of t) c) → get_or (allocation_order (reg_info_of t) c) p 0 ≡ get_or t (41984 + c * 512 + p) 0
    order-at-is p l = ap (λ (x : List ℕ). get_or x p 0) order_is ∙ get_d-cells t (41984 + c * 512) (get_or t (8195 + c * 8) 0) p (rw order-length at l)

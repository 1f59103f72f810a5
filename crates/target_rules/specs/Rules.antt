-- The rules 4 to 7 of a target, at one register, class or bank.
use Rattle.std.specs.Prelude.{ℕ, ◌<◌, ◌≡◌, Bool, true, false, List, length, get_or, eqb}
use Rattle.entity.specs.Logic.{and, or, no, any_in, has}
use Rattle.reginfo.specs.RegInfo.{RegInfo, top_level_class, stack_to_stack_class, bank_for_reg, reg_units, bank_for_class, class_members, allocation_order, is_memory_reg, includes_spillslots, last_in_order}

-- 4: at each bank the width of its registers below i that are not memory, all of which have that one; 0 where there is none. Those that are
-- memory have one unit
pub record Widths (t : RegInfo) (w : List ℕ) (i : ℕ) : Type 0 where
  pub long : length w ≡ 8
  pub memory : (r : ℕ) → r < i → is_memory_reg t r ≡ true → length (reg_units t r) ≡ 1
  pub same : (r : ℕ) → r < i → is_memory_reg t r ≡ false → get_or w (bank_for_reg t r) 0 ≡ length (reg_units t r)
  pub from : (b : ℕ) → (get_or w b 0 ≡ 0 → ⊥) → (r : ℕ) × (r < i) × (is_memory_reg t r ≡ false) × (bank_for_reg t r ≡ b) × (length (reg_units t r) ≡ get_or w b 0)

-- 5: the register is not of the bank; it is no member of the class
abbrev pub foreign_to : RegInfo → ℕ → ℕ → Bool
foreign_to t b r = no (eqb (bank_for_reg t r) b)

abbrev pub no_member : RegInfo → ℕ → ℕ → Bool
no_member t c r = no (has r (class_members t c))

abbrev pub foreign_class : RegInfo → ℕ → Bool
foreign_class t c = or (any_in (foreign_to t (bank_for_class t c)) (class_members t c)) (any_in (no_member t c) (allocation_order t c))

abbrev pub foreign_bank : RegInfo → ℕ → Bool
foreign_bank t b = or (no (eqb (bank_for_class t (top_level_class t b)) b)) (no (eqb (bank_for_class t (stack_to_stack_class t b)) b))

-- 7: the bank's two classes; the class's order
abbrev pub unfit_bank : RegInfo → ℕ → Bool
unfit_bank t b = or (no (includes_spillslots t (top_level_class t b))) (or (includes_spillslots t (stack_to_stack_class t b)) (any_in (λ r. is_memory_reg t r) (allocation_order t (stack_to_stack_class t b))))

abbrev pub unfit_order : RegInfo → ℕ → Bool
unfit_order t c = and (no (includes_spillslots t c)) (or (eqb (length (allocation_order t c)) 0) (is_memory_reg t (last_in_order t c)))

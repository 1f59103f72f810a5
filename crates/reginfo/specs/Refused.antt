-- 01, The target: its limits (2) and its rules (3 to 7), each as the condition under which its number is given.
use Rattle.std.specs.Prelude.{ℕ, ◌+◌, ◌≡◌, Bool, true, false, List, [], ◌∷◌, length, eqb, ltb, leb}
use Rattle.std.proofs.Math.Option.{Option, none, some}
use Rattle.entity.specs.Logic.{pick, and, or, no, any_in, all_in, has, meets, twice, indices}
use Rattle.reginfo.specs.RegInfo.{RegInfo, Class, num_banks, num_regs, num_classes, spillslot_size, top_level_class, stack_to_stack_class, reg_memory, bank_for_reg, reg_units, bank_for_class, class_slots, class_members, allocation_order, is_memory_reg, includes_spillslots, last_in_order}

-- some index below n passes the test
abbrev pub some_below : ℕ → (ℕ → Bool) → Bool
some_below n p = any_in p (indices 0 n)

abbrev pub within : ℕ → ℕ → ℕ → Bool
within low high n = and (leb low n) (leb n high)

abbrev pub all_below : ℕ → List ℕ → Bool
all_below n l = all_in (λ x. ltb x n) l

unfoldable pub order_total : List Class → ℕ
order_total [] = 0
order_total (c ∷ l) = length c.order + order_total l

-- 2: "units 1 to 512, banks 1 to 8, registers 1 to 512, classes 1 to 64"
unfoldable pub counts_fit : RegInfo → Bool
counts_fit t = and (within 1 512 t.units) (and (within 1 8 (num_banks t)) (and (within 1 512 (num_regs t)) (within 1 64 (num_classes t))))

-- "slot size log2 0 to 31"; "A bank's class numbers are tested"
unfoldable pub bank_fits : RegInfo → ℕ → Bool
bank_fits t b = and (leb (spillslot_size t b) 31) (and (ltb (top_level_class t b) (num_classes t)) (ltb (stack_to_stack_class t b) (num_classes t)))

-- a flag, a bank, "1 to 8 units"
unfoldable pub reg_fits : RegInfo → ℕ → Bool
reg_fits t r = and (leb (reg_memory t r) 1) (and (ltb (bank_for_reg t r) (num_banks t)) (and (within 1 8 (length (reg_units t r))) (all_below t.units (reg_units t r))))

-- a bank, a flag, registers
unfoldable pub class_fits : RegInfo → ℕ → Bool
class_fits t c = and (ltb (bank_for_class t c) (num_banks t)) (and (leb (class_slots t c) 1) (and (list_fits t (class_members t c)) (list_fits t (allocation_order t c))))
  where
    list_fits : RegInfo → List ℕ → Bool
    list_fits t l = and (leb (length l) 512) (all_below (num_regs t) l)

-- "order entries over all classes at most 4,096"
unfoldable pub outside_limits : RegInfo → Bool
outside_limits t = or (no (counts_fit t)) (or (some_below (num_banks t) (λ b. no (bank_fits t b))) (or (some_below (num_regs t) (λ r. no (reg_fits t r))) (or (some_below (num_classes t) (λ c. no (class_fits t c))) (ltb 4096 (order_total t.classes)))))

-- 3: "a register's units, a class's members and its order list nothing twice"
unfoldable pub listed_twice : RegInfo → Bool
listed_twice t = or (some_below (num_regs t) (λ r. twice (reg_units t r))) (some_below (num_classes t) (λ c. or (twice (class_members t c)) (twice (allocation_order t c))))

-- 4, by 02 b: "only registers that are not memory must match in width; a memory register has just one unit"
abbrev pub width_differs : RegInfo → ℕ → ℕ → Bool
width_differs t r q = and (no (is_memory_reg t q)) (and (eqb (bank_for_reg t r) (bank_for_reg t q)) (no (eqb (length (reg_units t r)) (length (reg_units t q)))))

abbrev pub unfit_width : RegInfo → ℕ → Bool
unfit_width t r = pick (is_memory_reg t r) (no (eqb (length (reg_units t r)) 1)) (some_below (num_regs t) (width_differs t r))

unfoldable pub unequal_widths : RegInfo → Bool
unequal_widths t = some_below (num_regs t) (unfit_width t)

-- 5: "a class's members, and a bank's top-level and stack classes, are of that bank, and an order lists members only"
unfoldable pub foreign_member : RegInfo → Bool
foreign_member t = or (some_below (num_classes t) (λ c. or (any_in (λ r. no (eqb (bank_for_reg t r) (bank_for_class t c))) (class_members t c)) (any_in (λ r. no (has r (class_members t c))) (allocation_order t c)))) (some_below (num_banks t) (λ b. or (no (eqb (bank_for_class t (top_level_class t b)) b)) (no (eqb (bank_for_class t (stack_to_stack_class t b)) b))))

-- 6: "a memory register shares no unit with one that isn't memory"
unfoldable pub shared_memory : RegInfo → Bool
shared_memory t = some_below (num_regs t) (λ r. and (is_memory_reg t r) (some_below (num_regs t) (λ q. and (no (is_memory_reg t q)) (meets (reg_units t r) (reg_units t q)))))

-- 7: "a top-level class includes slots, a stack class does not and its order has no memory register, and a class without slots has a
-- non-empty order whose last register isn't memory"
unfoldable pub unfit_class : RegInfo → Bool
unfit_class t = or (some_below (num_banks t) (λ b. or (no (includes_spillslots t (top_level_class t b))) (or (includes_spillslots t (stack_to_stack_class t b)) (any_in (λ r. is_memory_reg t r) (allocation_order t (stack_to_stack_class t b)))))) (some_below (num_classes t) (λ c. and (no (includes_spillslots t c)) (or (eqb (length (allocation_order t c)) 0) (is_memory_reg t (last_in_order t c)))))

-- the number of the first condition that holds
pub record Condition : Type 0 where
  pub number : ℕ
  pub holds : Bool

abbrev pub refused_if : ℕ → Bool → Condition
refused_if n b = record { number = n; holds = b }

abbrev pub or_else : Bool → ℕ → Option ℕ → Option ℕ
or_else true n o = some n
or_else false n o = o

unfoldable pub first_of : List Condition → Option ℕ
first_of [] = none
first_of (c ∷ l) = or_else c.holds c.number (first_of l)

-- the least number whose condition holds, none where none holds
unfoldable pub target_refusal : RegInfo → Option ℕ
target_refusal t = first_of (refused_if 2 (outside_limits t) ∷ refused_if 3 (listed_twice t) ∷ refused_if 4 (unequal_widths t) ∷ refused_if 5 (foreign_member t) ∷ refused_if 6 (shared_memory t) ∷ refused_if 7 (unfit_class t) ∷ [])

-- an accepted target
abbrev pub Accepted : RegInfo → Type 0
Accepted t = target_refusal t ≡ none

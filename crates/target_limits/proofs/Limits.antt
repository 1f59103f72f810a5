-- What a target within the limits has.
use Prim.Native.Nat.{ℕ, ◌+◌, ◌-◌, ◌<◌, ◌≤◌}
use mathlib.Core.Path.{◌≡◌}
use mathlib.Core.Bool.{Bool, true, false}
use mathlib.Core.List.{List, map}
use borrow.Author.Tests.{ltb-true, leb-true}
use lib.Dec.{ltb, leb}
use lib.ListN.{length}
use Rattle.entity.specs.Logic.{and, or, no, indices}
use Rattle.entity.proofs.Laws.{or-false, and-true, no_false, any_below, all-has, last_has, indices_step}
use Rattle.reginfo.specs.RegInfo.{RegInfo, num_banks, num_regs, num_classes, spillslot_size, top_level_class, stack_to_stack_class, reg_memory, bank_for_reg, reg_units, bank_for_class, class_slots, class_members, allocation_order, last_in_order}
use Rattle.reginfo.specs.Known.{KnownReg, KnownClass, KnownBank, KnownMembers}
use Rattle.reginfo.specs.Table.{class_at, reg_info_of, Indexed}
use Rattle.reginfo.specs.Refused.{some_below, within, all_below, order_total, counts_fit, bank_fits, reg_fits, class_fits, outside_limits}
use Rattle.reginfo.proofs.Table.{classes-count, members-length, order_is}
use Rattle.target_limits.specs.Fits.{list_fits}

-- three and four tests at once
and3 : (a b c : Bool) → and a (and b c) ≡ true → (a ≡ true) × (b ≡ true) × (c ≡ true)
and3 a b c h = let p = and-true a (and b c) h in let q = and-true b c p.1 in (p.0, q.0, q.1)

and4 : (a b c d : Bool) → and a (and b (and c d)) ≡ true → (a ≡ true) × (b ≡ true) × (c ≡ true) × (d ≡ true)
and4 a b c d h = let p = and-true a (and b (and c d)) h in let q = and3 b c d p.1 in (p.0, q.0, q.1, q.2)

-- a number within a range is at most its end
pub within-high : (low high n : ℕ) → within low high n ≡ true → n ≤ high
within-high low high n h = leb-true n high (and-true (leb low n) (leb n high) h).1

-- the counts fit
module _ (t : RegInfo) (h : counts_fit t ≡ true) where
  counts : (within 1 512 t.units ≡ true) × (within 1 8 (num_banks t) ≡ true) × (within 1 512 (num_regs t) ≡ true) × (within 1 64 (num_classes t) ≡ true)
  unfolding counts_fit
  counts = and4 (within 1 512 t.units) (within 1 8 (num_banks t)) (within 1 512 (num_regs t)) (within 1 64 (num_classes t)) h

  pub banks-few : num_banks t ≤ 8
  banks-few = within-high 1 8 (num_banks t) counts.1

  pub regs-few : num_regs t ≤ 512
  regs-few = within-high 1 512 (num_regs t) counts.2

  pub classes-few : num_classes t ≤ 64
  classes-few = within-high 1 64 (num_classes t) counts.3

-- a list of registers fits
module _ (t : RegInfo) (l : List ℕ) (h : list_fits t l ≡ true) where
  pub list-few : length l ≤ 512
  list-few = leb-true (length l) 512 (and-true (leb (length l) 512) (all_below (num_regs t) l) h).0

  pub list-known : all_below (num_regs t) l ≡ true
  list-known = (and-true (leb (length l) 512) (all_below (num_regs t) l) h).1

-- every class fits
module _ (t : RegInfo) (h : some_below (num_classes t) (λ c. no (class_fits t c)) ≡ false) (c : ℕ) (k : c < num_classes t) where
  class-lists : (ltb (bank_for_class t c) (num_banks t) ≡ true) × (leb (class_slots t c) 1 ≡ true) × (list_fits t (class_members t c) ≡ true) × (list_fits t (allocation_order t c) ≡ true)
  unfolding class_fits
  class-lists =
      and4 (ltb (bank_for_class t c) (num_banks t)) (leb (class_slots t c) 1) (list_fits t (class_members t c)) (list_fits t (allocation_order t c))
      (no_false (class_fits t c) (any_below (λ x. no (class_fits t x)) (num_classes t) c h k))

  pub order-few-at : length (allocation_order t c) ≤ 512
  order-few-at = list-few t (allocation_order t c) class-lists.3

-- one class more of the order entries
pub total-step : (t : List ℕ) (i n : ℕ) → 0 < n → i < num_classes (reg_info_of t) → order_total (map (class_at t) (indices i n)) ≡ length (allocation_order (reg_info_of t) i) + order_total (map (class_at t) (indices (i + 1) (n - 1)))
unfolding order_total class_at
total-step t i n h k = rw (indices_step i n h, order_is t i k)

-- a target within the limits
module _ (t : RegInfo) (h : outside_limits t ≡ false) where
  limits : (counts_fit t ≡ true) × (some_below (num_banks t) (λ b. no (bank_fits t b)) ≡ false) × (some_below (num_regs t) (λ r. no (reg_fits t r)) ≡ false) × (some_below (num_classes t) (λ c. no (class_fits t c)) ≡ false)
  unfolding outside_limits
  limits =
      let bs = some_below (num_banks t) (λ b. no (bank_fits t b)) in
      let rs = some_below (num_regs t) (λ r. no (reg_fits t r)) in
      let cs = some_below (num_classes t) (λ c. no (class_fits t c)) in
      let os = ltb 4096 (order_total t.classes) in
      let p = or-false (no (counts_fit t)) (or bs (or rs (or cs os))) h in
      let q = or-false bs (or rs (or cs os)) p.1 in
      let r = or-false rs (or cs os) q.1 in
      (no_false (counts_fit t) p.0, q.0, r.0, (or-false cs os r.1).0)

  pub counts_of : counts_fit t ≡ true
  counts_of = limits.0

  pub bank-known : (b : ℕ) → b < num_banks t → KnownBank t b
  bank-known b k = record { is = k; few = banks-few t counts_of }

  pub reg_known : (r : ℕ) → r < num_regs t → KnownReg t r
  reg_known r k = record { is = k; few = regs-few t counts_of }

  pub class-known : (c : ℕ) → c < num_classes t → KnownClass t c
  class-known c k = record { is = k; few = classes-few t counts_of }

  pub members-listed : (c : ℕ) → c < num_classes t → list_fits t (class_members t c) ≡ true
  members-listed c k = (class-lists t limits.3 c k).2

  pub order-listed : (c : ℕ) → c < num_classes t → list_fits t (allocation_order t c) ≡ true
  order-listed c k = (class-lists t limits.3 c k).3

  pub reg-limits : (r : ℕ) → r < num_regs t
      → (leb (reg_memory t r) 1 ≡ true) × (ltb (bank_for_reg t r) (num_banks t) ≡ true) × (within 1 8 (length (reg_units t r)) ≡ true) × (all_below t.units (reg_units t r) ≡ true)
  unfolding reg_fits
  reg-limits r k =
      and4 (leb (reg_memory t r) 1) (ltb (bank_for_reg t r) (num_banks t)) (within 1 8 (length (reg_units t r))) (all_below t.units (reg_units t r))
      (no_false (reg_fits t r) (any_below (λ x. no (reg_fits t x)) (num_regs t) r limits.2 k))

  pub width_few : (r : ℕ) → r < num_regs t → length (reg_units t r) ≤ 8
  width_few r k = within-high 1 8 (length (reg_units t r)) (reg-limits r k).2

  bank-classes : (b : ℕ) → b < num_banks t → (leb (spillslot_size t b) 31 ≡ true) × (ltb (top_level_class t b) (num_classes t) ≡ true) × (ltb (stack_to_stack_class t b) (num_classes t) ≡ true)
  unfolding bank_fits
  bank-classes b k =
      and3 (leb (spillslot_size t b) 31) (ltb (top_level_class t b) (num_classes t)) (ltb (stack_to_stack_class t b) (num_classes t))
      (no_false (bank_fits t b) (any_below (λ x. no (bank_fits t x)) (num_banks t) b limits.1 k))

  pub top-known : (b : ℕ) → b < num_banks t → KnownClass t (top_level_class t b)
  top-known b k = class-known (top_level_class t b) (ltb-true (top_level_class t b) (num_classes t) (bank-classes b k).1)

  pub stack-known : (b : ℕ) → b < num_banks t → KnownClass t (stack_to_stack_class t b)
  stack-known b k = class-known (stack_to_stack_class t b) (ltb-true (stack_to_stack_class t b) (num_classes t) (bank-classes b k).2)

  pub last-known : (c : ℕ) → c < num_classes t → 0 < length (allocation_order t c) → KnownReg t (last_in_order t c)
  last-known c k o =
      reg_known (last_in_order t c)
      (ltb-true (last_in_order t c) (num_regs t)
      (all-has (λ x. ltb x (num_regs t)) (allocation_order t c) (last_in_order t c) (list-known t (allocation_order t c) (order-listed c k)) (last_has 0 (allocation_order t c) o)))

-- a table whose index is right, over a target within the limits
pub members-known : (t : List ℕ) → outside_limits (reg_info_of t) ≡ false → Indexed t → (c : ℕ) → c < num_classes (reg_info_of t) → KnownMembers t c
members-known t h x c k =
    record {
      known = class-known (reg_info_of t) h c k;
      few = list-few (reg_info_of t) (class_members (reg_info_of t) c) (members-listed (reg_info_of t) h c k);
      indexed = rw (members-length t c k) (x c (rw (classes-count t) at k));
    }

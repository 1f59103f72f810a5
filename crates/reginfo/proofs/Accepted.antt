-- What an accepted target keeps to.
use Prim.Native.Nat.{ℕ, ◌<◌, ◌≤◌}
use mathlib.Core.Path.{◌≡◌, ap}
use mathlib.Core.Bool.{Bool, true, false}
use mathlib.Core.List.{List, [], ◌∷◌}
use native.Mathlib.Omega.{arith}
use lib.ListN.{get_or, length}
use lib.Dec.{eqb, ltb, leb}
use borrow.Author.Tests.{leb-true, ltb-true, ltb-false, eqb-true, eqb-false, eq-eqb}
use Rattle.entity.specs.Logic.{and, or, no, any_in, has, meets, twice}
use Rattle.entity.specs.Place.{Place, reg, slot, names}
use Rattle.entity.proofs.Laws.{or-false, and-true, and-false, no_false, any_below, any-has, all-has, has_get_d, last_has}
use Rattle.reginfo.specs.RegInfo.{RegInfo, num_banks, num_regs, num_classes, spillslot_size, top_level_class, stack_to_stack_class, reg_memory, bank_for_reg, reg_units, bank_for_class, class_slots, class_members, allocation_order, is_memory_reg, includes_spillslots, last_in_order}
use Rattle.reginfo.specs.Refused.{Condition, refused_if, some_below, within, all_below, order_total, counts_fit, bank_fits, reg_fits, class_fits, outside_limits, listed_twice, width_differs, unfit_width, unequal_widths, foreign_member, shared_memory, unfit_class, target_refusal, Accepted}
use Rattle.reginfo.specs.Known.{KnownReg, KnownClass, KnownBank, KnownUnits, KnownPlace, KnownMembers}
use Rattle.reginfo.specs.Table.{reg_info_of, Indexed}
use Rattle.reginfo.proofs.Table.{classes-count, members-length}
use Rattle.reginfo.proofs.First.{first-none}

abbrev rules : RegInfo → List Condition
rules t = refused_if 2 (outside_limits t) ∷ refused_if 3 (listed_twice t) ∷ refused_if 4 (unequal_widths t) ∷ refused_if 5 (foreign_member t) ∷ refused_if 6 (shared_memory t) ∷ refused_if 7 (unfit_class t) ∷ []

or3-false : (a b c : Bool) → or a (or b c) ≡ false → (a ≡ false) × (b ≡ false) × (c ≡ false)
or3-false a b c e = let p = or-false a (or b c) e in let q = or-false b c p.1 in (p.0, q.0, q.1)

and3-true : (a b c : Bool) → and a (and b c) ≡ true → (a ≡ true) × (b ≡ true) × (c ≡ true)
and3-true a b c e = let p = and-true a (and b c) e in let q = and-true b c p.1 in (p.0, q.0, q.1)

and4-true : (a b c d : Bool) → and a (and b (and c d)) ≡ true → (a ≡ true) × (b ≡ true) × (c ≡ true) × (d ≡ true)
and4-true a b c d e = let p = and-true a (and b (and c d)) e in let q = and3-true b c d p.1 in (p.0, q.0, q.1, q.2)

within-true : (low high n : ℕ) → within low high n ≡ true → (low ≤ n) × (n ≤ high)
within-true low high n e = let p = and-true (leb low n) (leb n high) e in (leb-true low n p.0, leb-true n high p.1)

module _ (t : RegInfo) (ok : Accepted t) where
  -- 2: the limits
  limits : (counts_fit t ≡ true) × (some_below (num_banks t) (λ b. no (bank_fits t b)) ≡ false) × (some_below (num_regs t) (λ r. no (reg_fits t r)) ≡ false) × (some_below (num_classes t) (λ c. no (class_fits t c)) ≡ false) × (ltb 4096 (order_total t.classes) ≡ false)
  unfolding target_refusal outside_limits
  limits =
      let bs = some_below (num_banks t) (λ b. no (bank_fits t b)) in
      let rs = some_below (num_regs t) (λ r. no (reg_fits t r)) in
      let cs = some_below (num_classes t) (λ c. no (class_fits t c)) in
      let os = ltb 4096 (order_total t.classes) in
      let p = or3-false (no (counts_fit t)) bs (or rs (or cs os)) (first-none (rules t) ok 0 (omega arith)) in
      let q = or3-false rs cs os p.2 in
      (no_false (counts_fit t) p.0, p.1, q.0, q.1, q.2)

  counts : (within 1 512 t.units ≡ true) × (within 1 8 (num_banks t) ≡ true) × (within 1 512 (num_regs t) ≡ true) × (within 1 64 (num_classes t) ≡ true)
  unfolding counts_fit
  counts = and4-true (within 1 512 t.units) (within 1 8 (num_banks t)) (within 1 512 (num_regs t)) (within 1 64 (num_classes t)) limits.0

  pub units-fit : (1 ≤ t.units) × (t.units ≤ 512)
  units-fit = within-true 1 512 t.units counts.0

  pub banks-fit : (1 ≤ num_banks t) × (num_banks t ≤ 8)
  banks-fit = within-true 1 8 (num_banks t) counts.1

  pub regs-fit : (1 ≤ num_regs t) × (num_regs t ≤ 512)
  regs-fit = within-true 1 512 (num_regs t) counts.2

  pub classes-fit : (1 ≤ num_classes t) × (num_classes t ≤ 64)
  classes-fit = within-true 1 64 (num_classes t) counts.3

  pub orders-fit : order_total t.classes ≤ 4096
  orders-fit = ltb-false 4096 (order_total t.classes) limits.4

  -- banks
  module _ (b : ℕ) (h : b < num_banks t) where
    pub known-bank : KnownBank t b
    known-bank = record { is = h; few = banks-fit.1 }

    bank-limits : (leb (spillslot_size t b) 31 ≡ true) × (ltb (top_level_class t b) (num_classes t) ≡ true) × (ltb (stack_to_stack_class t b) (num_classes t) ≡ true)
    unfolding bank_fits
    bank-limits =
        and3-true (leb (spillslot_size t b) 31) (ltb (top_level_class t b) (num_classes t)) (ltb (stack_to_stack_class t b) (num_classes t))
        (no_false (bank_fits t b) (any_below (λ b. no (bank_fits t b)) (num_banks t) b limits.1 h))

    pub size_fits : spillslot_size t b ≤ 31
    size_fits = leb-true (spillslot_size t b) 31 bank-limits.0

    pub top-fits : top_level_class t b < num_classes t
    top-fits = ltb-true (top_level_class t b) (num_classes t) bank-limits.1

    pub stack-fits : stack_to_stack_class t b < num_classes t
    stack-fits = ltb-true (stack_to_stack_class t b) (num_classes t) bank-limits.2

  -- registers
  module _ (r : ℕ) (h : r < num_regs t) where
    pub known-reg : KnownReg t r
    known-reg = record { is = h; few = regs-fit.1 }

    reg-limits : (leb (reg_memory t r) 1 ≡ true) × (ltb (bank_for_reg t r) (num_banks t) ≡ true) × (within 1 8 (length (reg_units t r)) ≡ true) × (all_below t.units (reg_units t r) ≡ true)
    unfolding reg_fits
    reg-limits =
        and4-true (leb (reg_memory t r) 1) (ltb (bank_for_reg t r) (num_banks t)) (within 1 8 (length (reg_units t r))) (all_below t.units (reg_units t r))
        (no_false (reg_fits t r) (any_below (λ r. no (reg_fits t r)) (num_regs t) r limits.2 h))

    pub reg-bank-fits : bank_for_reg t r < num_banks t
    reg-bank-fits = ltb-true (bank_for_reg t r) (num_banks t) reg-limits.1

    pub width_fits : (1 ≤ length (reg_units t r)) × (length (reg_units t r) ≤ 8)
    width_fits = within-true 1 8 (length (reg_units t r)) reg-limits.2

    pub unit-fits : (u : ℕ) → has u (reg_units t r) ≡ true → u < t.units
    unit-fits u e = ltb-true u t.units (all-has (λ x. ltb x t.units) (reg_units t r) u reg-limits.3 e)

    pub unit-fits-at : (j : ℕ) → j < length (reg_units t r) → get_or (reg_units t r) j 0 < t.units
    unit-fits-at j b = unit-fits (get_or (reg_units t r) j 0) (has_get_d (reg_units t r) j b)

    pub unit-low : (u : ℕ) → has u (reg_units t r) ≡ true → u < 512
    unit-low u e = omega (arith, unit-fits u e, units-fit.1)

    pub known-units : KnownUnits t r
    known-units = record { known = known-reg; few = width_fits.1; low = unit-low }

  -- classes
  module _ (c : ℕ) (h : c < num_classes t) where
    pub known-class : KnownClass t c
    known-class = record { is = h; few = classes-fit.1 }

    class-limits : (ltb (bank_for_class t c) (num_banks t) ≡ true) × (leb (class_slots t c) 1 ≡ true) × (and (leb (length (class_members t c)) 512) (all_below (num_regs t) (class_members t c)) ≡ true) × (and (leb (length (allocation_order t c)) 512) (all_below (num_regs t) (allocation_order t c)) ≡ true)
    unfolding class_fits
    class-limits =
        and4-true (ltb (bank_for_class t c) (num_banks t)) (leb (class_slots t c) 1) (and (leb (length (class_members t c)) 512) (all_below (num_regs t) (class_members t c))) (and (leb (length (allocation_order t c)) 512) (all_below (num_regs t) (allocation_order t c)))
        (no_false (class_fits t c) (any_below (λ c. no (class_fits t c)) (num_classes t) c limits.3 h))

    pub class-bank-fits : bank_for_class t c < num_banks t
    class-bank-fits = ltb-true (bank_for_class t c) (num_banks t) class-limits.0

    members-limits : (leb (length (class_members t c)) 512 ≡ true) × (all_below (num_regs t) (class_members t c) ≡ true)
    members-limits = and-true (leb (length (class_members t c)) 512) (all_below (num_regs t) (class_members t c)) class-limits.2

    order-limits : (leb (length (allocation_order t c)) 512 ≡ true) × (all_below (num_regs t) (allocation_order t c) ≡ true)
    order-limits = and-true (leb (length (allocation_order t c)) 512) (all_below (num_regs t) (allocation_order t c)) class-limits.3

    pub members-fit : length (class_members t c) ≤ 512
    members-fit = leb-true (length (class_members t c)) 512 members-limits.0

    pub order-fits : length (allocation_order t c) ≤ 512
    order-fits = leb-true (length (allocation_order t c)) 512 order-limits.0

    pub member-fits : (r : ℕ) → has r (class_members t c) ≡ true → r < num_regs t
    member-fits r e = ltb-true r (num_regs t) (all-has (λ x. ltb x (num_regs t)) (class_members t c) r members-limits.1 e)

    pub member-fits-at : (p : ℕ) → p < length (class_members t c) → get_or (class_members t c) p 0 < num_regs t
    member-fits-at p b = member-fits (get_or (class_members t c) p 0) (has_get_d (class_members t c) p b)

    pub ordered-fits : (r : ℕ) → has r (allocation_order t c) ≡ true → r < num_regs t
    ordered-fits r e = ltb-true r (num_regs t) (all-has (λ x. ltb x (num_regs t)) (allocation_order t c) r order-limits.1 e)

    pub ordered-fits-at : (p : ℕ) → p < length (allocation_order t c) → get_or (allocation_order t c) p 0 < num_regs t
    ordered-fits-at p b = ordered-fits (get_or (allocation_order t c) p 0) (has_get_d (allocation_order t c) p b)

  -- 3: nothing is listed twice
  once : (some_below (num_regs t) (λ r. twice (reg_units t r)) ≡ false) × (some_below (num_classes t) (λ c. or (twice (class_members t c)) (twice (allocation_order t c))) ≡ false)
  unfolding target_refusal listed_twice
  once = or-false (some_below (num_regs t) (λ r. twice (reg_units t r))) (some_below (num_classes t) (λ c. or (twice (class_members t c)) (twice (allocation_order t c)))) (first-none (rules t) ok 1 (omega arith))

  pub units-once : (r : ℕ) → r < num_regs t → twice (reg_units t r) ≡ false
  units-once r h = any_below (λ r. twice (reg_units t r)) (num_regs t) r once.0 h

  lists-once : (c : ℕ) → c < num_classes t → (twice (class_members t c) ≡ false) × (twice (allocation_order t c) ≡ false)
  lists-once c h = or-false (twice (class_members t c)) (twice (allocation_order t c)) (any_below (λ c. or (twice (class_members t c)) (twice (allocation_order t c))) (num_classes t) c once.1 h)

  pub members-once : (c : ℕ) → c < num_classes t → twice (class_members t c) ≡ false
  members-once c h = (lists-once c h).0

  pub order-once : (c : ℕ) → c < num_classes t → twice (allocation_order t c) ≡ false
  order-once c h = (lists-once c h).1

  -- 4: the registers of a bank that are not memory are equally wide
  pub same_width : (r q : ℕ) → r < num_regs t → q < num_regs t → is_memory_reg t r ≡ false → is_memory_reg t q ≡ false → bank_for_reg t r ≡ bank_for_reg t q
      → length (reg_units t r) ≡ length (reg_units t q)
  unfolding target_refusal unequal_widths
  same_width r q h k m n e =
      let w : some_below (num_regs t) (width_differs t r) ≡ false = rw m at (any_below (unfit_width t) (num_regs t) r (first-none (rules t) ok 2 (omega arith)) h) in
      let s = and-false (no (is_memory_reg t q)) _ (any_below (width_differs t r) (num_regs t) q w k) (ap no n) in
      let d = and-false (eqb (bank_for_reg t r) (bank_for_reg t q)) (no (eqb (length (reg_units t r)) (length (reg_units t q)))) s (eq-eqb (bank_for_reg t r) (bank_for_reg t q) e) in
      eqb-true (length (reg_units t r)) (length (reg_units t q)) (no_false (eqb (length (reg_units t r)) (length (reg_units t q))) d)

  -- 5: members and a bank's classes are of that bank, and an order lists members
  abbrev strange : ℕ → Bool
  strange c = or (any_in (λ r. no (eqb (bank_for_reg t r) (bank_for_class t c))) (class_members t c)) (any_in (λ r. no (has r (class_members t c))) (allocation_order t c))

  abbrev misplaced : ℕ → Bool
  misplaced b = or (no (eqb (bank_for_class t (top_level_class t b)) b)) (no (eqb (bank_for_class t (stack_to_stack_class t b)) b))

  own : (some_below (num_classes t) strange ≡ false) × (some_below (num_banks t) misplaced ≡ false)
  unfolding target_refusal foreign_member
  own = or-false (some_below (num_classes t) strange) (some_below (num_banks t) misplaced) (first-none (rules t) ok 3 (omega arith))

  own-members : (c : ℕ) → c < num_classes t → (any_in (λ r. no (eqb (bank_for_reg t r) (bank_for_class t c))) (class_members t c) ≡ false) × (any_in (λ r. no (has r (class_members t c))) (allocation_order t c) ≡ false)
  own-members c h = or-false (any_in (λ r. no (eqb (bank_for_reg t r) (bank_for_class t c))) (class_members t c)) (any_in (λ r. no (has r (class_members t c))) (allocation_order t c)) (any_below strange (num_classes t) c own.0 h)

  pub member-bank : (c r : ℕ) → c < num_classes t → has r (class_members t c) ≡ true → bank_for_reg t r ≡ bank_for_class t c
  member-bank c r h e =
      eqb-true (bank_for_reg t r) (bank_for_class t c)
      (no_false (eqb (bank_for_reg t r) (bank_for_class t c)) (any-has (λ r. no (eqb (bank_for_reg t r) (bank_for_class t c))) (class_members t c) r (own-members c h).0 e))

  pub order-member : (c r : ℕ) → c < num_classes t → has r (allocation_order t c) ≡ true → has r (class_members t c) ≡ true
  order-member c r h e = no_false (has r (class_members t c)) (any-has (λ r. no (has r (class_members t c))) (allocation_order t c) r (own-members c h).1 e)

  own-classes : (b : ℕ) → b < num_banks t → (no (eqb (bank_for_class t (top_level_class t b)) b) ≡ false) × (no (eqb (bank_for_class t (stack_to_stack_class t b)) b) ≡ false)
  own-classes b h = or-false (no (eqb (bank_for_class t (top_level_class t b)) b)) (no (eqb (bank_for_class t (stack_to_stack_class t b)) b)) (any_below misplaced (num_banks t) b own.1 h)

  pub top-bank : (b : ℕ) → b < num_banks t → bank_for_class t (top_level_class t b) ≡ b
  top-bank b h = eqb-true (bank_for_class t (top_level_class t b)) b (no_false (eqb (bank_for_class t (top_level_class t b)) b) (own-classes b h).0)

  pub stack-bank : (b : ℕ) → b < num_banks t → bank_for_class t (stack_to_stack_class t b) ≡ b
  stack-bank b h = eqb-true (bank_for_class t (stack_to_stack_class t b)) b (no_false (eqb (bank_for_class t (stack_to_stack_class t b)) b) (own-classes b h).1)

  -- 6: a memory register shares no unit with one that isn't memory
  abbrev shares : ℕ → ℕ → Bool
  shares r q = and (no (is_memory_reg t q)) (meets (reg_units t r) (reg_units t q))

  pub memory-apart : (r q : ℕ) → r < num_regs t → q < num_regs t → is_memory_reg t r ≡ true → is_memory_reg t q ≡ false → meets (reg_units t r) (reg_units t q) ≡ false
  unfolding target_refusal shared_memory
  memory-apart r q h k m n =
      let s = any_below (λ r. and (is_memory_reg t r) (some_below (num_regs t) (shares r))) (num_regs t) r (first-none (rules t) ok 4 (omega arith)) h in
      and-false (no (is_memory_reg t q)) (meets (reg_units t r) (reg_units t q)) (any_below (shares r) (num_regs t) q (and-false (is_memory_reg t r) (some_below (num_regs t) (shares r)) s m) k) (ap no n)

  -- 7: slots and memory
  abbrev unfit_bank : ℕ → Bool
  unfit_bank b = or (no (includes_spillslots t (top_level_class t b))) (or (includes_spillslots t (stack_to_stack_class t b)) (any_in (λ r. is_memory_reg t r) (allocation_order t (stack_to_stack_class t b))))

  abbrev unfit_order : ℕ → Bool
  unfit_order c = and (no (includes_spillslots t c)) (or (eqb (length (allocation_order t c)) 0) (is_memory_reg t (last_in_order t c)))

  fit : (some_below (num_banks t) unfit_bank ≡ false) × (some_below (num_classes t) unfit_order ≡ false)
  unfolding target_refusal unfit_class
  fit = or-false (some_below (num_banks t) unfit_bank) (some_below (num_classes t) unfit_order) (first-none (rules t) ok 5 (omega arith))

  module _ (b : ℕ) (h : b < num_banks t) where
    fit-bank : (no (includes_spillslots t (top_level_class t b)) ≡ false) × (includes_spillslots t (stack_to_stack_class t b) ≡ false) × (any_in (λ r. is_memory_reg t r) (allocation_order t (stack_to_stack_class t b)) ≡ false)
    fit-bank =
        or3-false (no (includes_spillslots t (top_level_class t b))) (includes_spillslots t (stack_to_stack_class t b)) (any_in (λ r. is_memory_reg t r) (allocation_order t (stack_to_stack_class t b)))
        (any_below unfit_bank (num_banks t) b fit.0 h)

    pub top-slots : includes_spillslots t (top_level_class t b) ≡ true
    top-slots = no_false (includes_spillslots t (top_level_class t b)) fit-bank.0

    pub stack-slots : includes_spillslots t (stack_to_stack_class t b) ≡ false
    stack-slots = fit-bank.1

    pub stack-memory : (r : ℕ) → has r (allocation_order t (stack_to_stack_class t b)) ≡ true → is_memory_reg t r ≡ false
    stack-memory r e = any-has (λ r. is_memory_reg t r) (allocation_order t (stack_to_stack_class t b)) r fit-bank.2 e

  module _ (c : ℕ) (h : c < num_classes t) (n : includes_spillslots t c ≡ false) where
    fit-order : (eqb (length (allocation_order t c)) 0 ≡ false) × (is_memory_reg t (last_in_order t c) ≡ false)
    fit-order =
        or-false (eqb (length (allocation_order t c)) 0) (is_memory_reg t (last_in_order t c))
        (and-false (no (includes_spillslots t c)) (or (eqb (length (allocation_order t c)) 0) (is_memory_reg t (last_in_order t c))) (any_below unfit_order (num_classes t) c fit.1 h) (ap no n))

    pub order-some : 0 < length (allocation_order t c)
    order-some = let z : length (allocation_order t c) ≡ 0 → ⊥ = eqb-false (length (allocation_order t c)) 0 fit-order.0 in omega arith

    pub last-memory : is_memory_reg t (last_in_order t c) ≡ false
    last-memory = fit-order.1

    pub last-ordered : has (last_in_order t c) (allocation_order t c) ≡ true
    last-ordered = last_has 0 (allocation_order t c) order-some

-- what the code asks of a place and of a class
pub known-place : (t : RegInfo) → Accepted t → (slots : ℕ) (p : Place) → slots ≤ 65024 → names (num_regs t) slots p ≡ true → KnownPlace t p
known-place t ok slots (reg r) few e = known-units t ok r (ltb-true r (num_regs t) e)
known-place t ok slots (slot s) few e = omega (arith, ltb-true s slots e)

pub known-members : (t : List ℕ) → Accepted (reg_info_of t) → Indexed t → (c : ℕ) → c < num_classes (reg_info_of t) → KnownMembers t c
known-members t ok indexed c h =
    record { known = known-class (reg_info_of t) ok c h; few = members-fit (reg_info_of t) ok c h; indexed = rw (members-length t c h) (indexed c (rw classes-count at h)) }

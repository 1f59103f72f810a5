-- Sizes marked one after the other, and counted.
use Prim.Native.Nat.{ℕ, suc, ◌+◌, ◌-◌, ◌<◌, ◌≤◌}
use mathlib.Core.Path.{◌≡◌, refl, sym, ap, ◌∙◌, fun_ext}
use mathlib.Core.Bool.{Bool, true, false, or-true, or-false, or_assoc}
use mathlib.Core.List.{List}
use mathlib.Core.Logic.{⊎_elim}
use native.Mathlib.Omega.{arith}
use borrow.Author.Tests.{eqb-true, eqb-false}
use lib.Dec.{eqb}
use lib.ListN.{length, replicate}
use Rattle.entity.specs.Logic.{or, any_in, indices}
use Rattle.entity.proofs.Laws.{indices_step}
use Rattle.reginfo.specs.RegInfo.{RegInfo, spillslot_size}
use Rattle.reginfo.specs.Table.{reg_info_of}
use Rattle.reginfo.proofs.Accepted.{size_fits}
use Rattle.small_set.specs.Set.{set_of, empty_set, inserted}
use Rattle.small_set.proofs.Laws.{in-inserted, inserted-other, none_in}
use Rattle.function.specs.Function.{Function, num_values, value_bank}
use Rattle.function.specs.Known.{Checked}
use Rattle.function.specs.Table.{function_of}
use Rattle.function.proofs.Laws.{one-or-two, bank-there}
use Rattle.rules.specs.Edit.{filter}
use Rattle.rules.specs.Counts.{bit}
use Rattle.machine.specs.Enough.{sizes_that, num_sizes, enough_slots}
use Rattle.machine.proofs.Sums.{filter-first}
use Rattle.machine.proofs.EnoughSlots.{plan}
use Rattle.enough_slots.specs.Sizes.{AllMarked}

-- a value's slots have one of the 32 sizes
pub size_low : (t f : List ℕ) → Checked t f → (v : ℕ) → v < num_values (function_of f) → spillslot_size (reg_info_of t) (value_bank (function_of f) v) < 32
size_low t f k v h = omega (arith, size_fits (reg_info_of t) k.target (value_bank (function_of f) v) (bank-there (reg_info_of t) (function_of f) k.function v h))

inserted-or : (s : ℕ → Bool) (x z : ℕ) → inserted s x z ≡ or (s z) (eqb x z)
inserted-or s x z = go (eqb x z) refl
  where
    go : (b : Bool) → eqb x z ≡ b → inserted s x z ≡ or (s z) b
    go true e = rw (← eqb-true x z e) (in-inserted s x ∙ sym (or-true (s x)))
    go false e = inserted-other s x z (λ q. eqb-false x z e (sym q)) ∙ sym (or-false (s z))

-- the bank of value v has slots of size z
abbrev pub of_size : RegInfo → Function → ℕ → ℕ → Bool
of_size t f z v = eqb (spillslot_size t (value_bank f v)) z

-- one value more
pub mark-step : (t : RegInfo) (f : Function) (sizes new : List Bool) (i left : ℕ) → 0 < left → set_of new ≡ inserted (set_of sizes) (spillslot_size t (value_bank f i))
    → (z : ℕ) → or (set_of sizes z) (any_in (of_size t f z) (indices i left)) ≡ or (set_of new z) (any_in (of_size t f z) (indices (i + 1) (left - 1)))
unfolding any_in
mark-step t f sizes new i left h e z =
    rw (indices_step i left h, e, inserted-or (set_of sizes) (spillslot_size t (value_bank f i)) z)
    (sym (or_assoc (set_of sizes z) (of_size t f z i) (any_in (of_size t f z) (indices (i + 1) (left - 1)))))

pub none_left : (t : RegInfo) (f : Function) (sizes : List Bool) (i z : ℕ) → or (set_of sizes z) (any_in (of_size t f z) (indices i 0)) ≡ set_of sizes z
unfolding any_in indices
none_left t f sizes i z = or-false (set_of sizes z)

-- one size more
pub count-step : (p : ℕ → Bool) (z left : ℕ) → 0 < left → length (filter p (indices z left)) ≡ bit (p z) + length (filter p (indices (z + 1) (left - 1)))
count-step p z left h = let e : left ≡ suc (left - 1) = omega arith in ap (λ (n : ℕ). length (filter p (indices z n))) e ∙ filter-first p z (left - 1)

-- as many slots as `plan` says
pub few-slots : (t f : List ℕ) → Checked t f → enough_slots (reg_info_of t) (function_of f) ≤ 1040
few-slots t f k = (plan (reg_info_of t) (function_of f) k.target k.function).0

pub few-kept : (t f : List ℕ) → Checked t f → (function_of f).kept ≤ 2
few-kept t f k = ⊎_elim (λ e. omega arith) (λ e. omega arith) (one-or-two (reg_info_of t) (function_of f) k.function)

-- all are marked
pub all-counted : (t : RegInfo) (f : Function) (n : ℕ) (sizes : List Bool) → AllMarked t f (replicate n false) sizes → sizes_that (set_of sizes) ≡ num_sizes t f
unfolding empty_set
all-counted t f n sizes h = ap sizes_that (fun_ext (λ z. rw (none_in n) at (h z)))

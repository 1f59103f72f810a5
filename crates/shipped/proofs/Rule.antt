-- The table's rule, by one computed test over its 56 · 32 pairs; and the table against 01's words.
use Prim.Native.Nat.{ℕ, ◌+◌, ◌*◌, ◌/◌, ◌%◌, ◌<◌, ◌≤◌}
use mathlib.Core.Path.{◌≡◌, refl, sym, ap, ◌∙◌}
use mathlib.Core.Bool.{Bool, true, false}
use mathlib.Core.List.{List, [], map}
use native.Mathlib.Omega.{arith}
use lib.Dec.{leb}
use lib.ListN.{get_or, length}
use borrow.Author.Tests.{leb-true}
use Rattle.entity.specs.Logic.{has, indices, cells}
use Rattle.entity.proofs.Laws.{get_d-built, get_d-cells}
use Rattle.shipped.specs.Shipped.{shipped_units, shipped_row}
use Rattle.shipped.specs.Table.{joined, table, start_of, unit_list, row}

-- two functions whose first n values were computed and compared
pub alike : {A : Type 0} (f g : ℕ → A) (d : A) (n k : ℕ) → map f (indices 0 n) ≡ map g (indices 0 n) → k < n → f k ≡ g k
alike f g d n k e h =
    let z : k ≡ 0 + k = omega arith in
    ap f z ∙ sym (get_d-built f 0 n k d h) ∙ ap (λ (l : List _). get_or l k d) e ∙ get_d-built g 0 n k d h ∙ ap g (sym z)

-- "Register r lists u exactly when u's row has r."
listed : ℕ → Bool
listed k = has (k % 32) (unit_list (k / 32))

in_row : ℕ → Bool
in_row k = has (k / 32) (row (k % 32))

tested : map listed (indices 0 1792) ≡ map in_row (indices 0 1792)
unfolding listed in_row unit_list row table joined start_of shipped_units shipped_row has indices cells
tested = refl

pub table-rule : (r u : ℕ) → r < 56 → u < 32 → has u (unit_list r) ≡ has r (row u)
unfolding listed in_row
table-rule r u hr hu =
    let a : (r * 32 + u) / 32 ≡ r = omega arith in
    let b : (r * 32 + u) % 32 ≡ u = omega arith in
    rw (a, b) at (alike listed in_row false 1792 (r * 32 + u) tested (omega arith))

-- the lists and the rows are 01's
pub list-is : (r : ℕ) → r < 56 → unit_list r ≡ shipped_units r
unfolding unit_list table joined start_of shipped_units shipped_row indices cells
list-is r h = alike unit_list shipped_units [] 56 r refl h

pub row_is : (u : ℕ) → u < 32 → row u ≡ shipped_row u
unfolding row table joined shipped_units shipped_row indices cells
row_is u h = alike row shipped_row [] 32 u refl h

pub rule : (r u : ℕ) → r < 56 → u < 32 → has u (shipped_units r) ≡ has r (shipped_row u)
rule r u hr hu = rw (← list-is r hr, ← row_is u hu) (table-rule r u hr hu)

-- what the accessors read in it
module _ (r : ℕ) (h : r < 56) where
  pub list_inside : start_of r + length (shipped_units r) ≤ 96
  unfolding start_of shipped_units indices
  list_inside = leb-true _ _ (alike (λ (q : ℕ). leb (start_of q + length (shipped_units q)) 96) (λ (q : ℕ). true) true 56 r refl h)

  pub unit-is : (j : ℕ) → j < length (shipped_units r) → get_or table (start_of r + j) 0 ≡ get_or (shipped_units r) j 0
  unfolding unit_list
  unit-is j l = sym (get_d-cells table (start_of r) (length (shipped_units r)) j l) ∙ ap (λ (x : List ℕ). get_or x j 0) (list-is r h)

pub reg-is : (u k : ℕ) → u < 32 → k < 3 → get_or table (96 + u * 3 + k) 0 ≡ get_or (shipped_row u) k 0
unfolding row
reg-is u k h l = sym (get_d-cells table (96 + u * 3) 3 k l) ∙ ap (λ (x : List ℕ). get_or x k 0) (row_is u h)

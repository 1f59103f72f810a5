-- The bytes of a target and a function, part by part, from the tables' cells.
use Prim.Native.Nat.{ℕ, ◌+◌, ◌-◌, ◌*◌, ◌<◌, ◌≤◌}
use mathlib.Core.Path.{◌≡◌, ap, ◌∙◌}
use mathlib.Core.List.{List, [], ◌∷◌, ◌++◌, map}
use native.Mathlib.Omega.{arith}
use lib.Dec.{eqb}
use lib.ListN.{length, get_or, drop, drop_of_length-le}
use borrow.Author.Tests.{eq-eqb, ne_eqb}
use Rattle.entity.specs.Logic.{pick, cells, indices}
use Rattle.entity.proofs.Laws.{cells-step, indices_step, length-cells, length-built, drop-step}
use Rattle.reginfo.specs.RegInfo.{num_regs, num_classes}
use Rattle.reginfo.specs.Refused.{Accepted}
use Rattle.reginfo.specs.Table.{bank_at, reg_at, class_at, reg_info_of}
use Rattle.reginfo.proofs.Table.{banks-count, regs_count, classes-count, units-length, members-length, order-length}
use Rattle.reginfo.proofs.Accepted.{banks-fit, regs-fit, classes-fit, width_fits, members-fit, order-fits}
use Rattle.function.specs.Function.{num_values}
use Rattle.function.specs.Table.{value_at, function_of}
use Rattle.function.proofs.Table.{values-count}
use Rattle.number.specs.Number.{encoded}
use Rattle.job_numbers.specs.Numbers.{counted, each_of, bank_numbers, reg_numbers, class_numbers, target_numbers, value_numbers, function_numbers, bytes_of}
use Rattle.job_bytes.specs.Puts.{FewUnits, FewMembers}
use Rattle.job_bytes.proofs.Putting.{bytes-more, bytes_one, bytes-none, bytes-append}

-- ---- lists
pub cells-more : (t : List ℕ) (i left : ℕ) → 0 < left → bytes_of (cells t i left) ≡ encoded (get_or t i 0) ++ bytes_of (cells t (i + 1) (left - 1))
cells-more t i left h = rw (cells-step t i left h) (bytes-more (get_or t i 0) (cells t (i + 1) (left - 1)))

pub cells-none : (t : List ℕ) (i left : ℕ) → left ≤ 0 → bytes_of (cells t i left) ≡ []
unfolding cells
cells-none t i left h = let z : left ≡ 0 = omega arith in rw z bytes-none

pub numbers_more : (l : List ℕ) (i : ℕ) → i < length l → bytes_of (drop i l) ≡ encoded (get_or l i 0) ++ bytes_of (drop (i + 1) l)
numbers_more l i h = rw (drop-step l i 0 h) (bytes-more (get_or l i 0) (drop (i + 1) l))

pub numbers-none : (l : List ℕ) (i : ℕ) → length l ≤ i → bytes_of (drop i l) ≡ []
numbers-none l i h = let z : drop i l ≡ [] = drop_of_length-le l {i = i} h in rw z bytes-none

-- ---- rows, one after the other
pub each-more : (row : ℕ → List ℕ) (i left : ℕ) → 0 < left → each_of row (indices i left) ≡ row i ++ each_of row (indices (i + 1) (left - 1))
unfolding each_of
each-more row i left h = rw (indices_step i left h)

pub each-none : (row : ℕ → List ℕ) (i left : ℕ) → left ≤ 0 → each_of row (indices i left) ≡ []
unfolding each_of indices
each-none row i left h = let z : left ≡ 0 = omega arith in rw z

module _ {A : Type 0} (g : A → List ℕ) (row : ℕ → A) where
  abbrev pub rows : ℕ → List ℕ
  rows n = each_of (λ i. bytes_of (g (row i))) (indices 0 n)

  each-bytes : (l : List ℕ) → bytes_of (each_of g (map row l)) ≡ each_of (λ i. bytes_of (g (row i))) l
  unfolding each_of
  each-bytes [] = bytes-none
  each-bytes (i ∷ l) = rw (bytes-append (g (row i)) (each_of g (map row l)), each-bytes l)

  counted-rows : (n : ℕ) → bytes_of (length (map row (indices 0 n)) ∷ each_of g (map row (indices 0 n))) ≡ encoded n ++ rows n
  counted-rows n = bytes-more (length (map row (indices 0 n))) (each_of g (map row (indices 0 n))) ∙ rw (length-built row 0 n, each-bytes (indices 0 n))

-- ---- single parts
pub two_bytes : (a b : ℕ) → bytes_of (a ∷ b ∷ []) ≡ encoded a ++ encoded b
two_bytes a b = bytes-more a (b ∷ []) ∙ rw (bytes_one b)

pub list-bytes : (t : List ℕ) (start n : ℕ) → bytes_of (counted (cells t start n)) ≡ encoded n ++ bytes_of (cells t start n)
list-bytes t start n = bytes-more (length (cells t start n)) (cells t start n) ∙ rw (length-cells t start n)

pub bank-bytes : (t : List ℕ) (b : ℕ)
    → bytes_of (bank_numbers (bank_at t b)) ≡ bytes_of (get_or t (8704 + b * 4) 0 ∷ get_or t (8705 + b * 4) 0 ∷ []) ++ encoded (get_or t (8706 + b * 4) 0)
unfolding bank_at
bank-bytes t b =
    bytes-append (get_or t (8704 + b * 4) 0 ∷ get_or t (8705 + b * 4) 0 ∷ []) (get_or t (8706 + b * 4) 0 ∷ []) ∙ rw (bytes_one (get_or t (8706 + b * 4) 0))

pub reg-bytes : (t : List ℕ) (r : ℕ)
    → bytes_of (reg_numbers (reg_at t r))
    ≡ bytes_of (get_or t (r * 16) 0 ∷ get_or t (1 + r * 16) 0 ∷ []) ++ bytes_of (counted (cells t (8 + r * 16) (get_or t (2 + r * 16) 0)))
unfolding reg_at
reg-bytes t r = bytes-append (get_or t (r * 16) 0 ∷ get_or t (1 + r * 16) 0 ∷ []) (counted (cells t (8 + r * 16) (get_or t (2 + r * 16) 0)))

module _ (t : List ℕ) (c : ℕ) where
  abbrev pub member_bytes : List ℕ
  member_bytes = bytes_of (counted (cells t (9216 + c * 512) (get_or t (8194 + c * 8) 0)))

  abbrev pub order_bytes : List ℕ
  order_bytes = bytes_of (counted (cells t (41984 + c * 512) (get_or t (8195 + c * 8) 0)))

  pub class-bytes : bytes_of (class_numbers (class_at t c)) ≡ bytes_of (get_or t (8192 + c * 8) 0 ∷ get_or t (8193 + c * 8) 0 ∷ []) ++ (member_bytes ++ order_bytes)
  unfolding class_at
  class-bytes =
      let m : List ℕ = counted (cells t (9216 + c * 512) (get_or t (8194 + c * 8) 0)) in
      let o : List ℕ = counted (cells t (41984 + c * 512) (get_or t (8195 + c * 8) 0)) in
      bytes-append (get_or t (8192 + c * 8) 0 ∷ get_or t (8193 + c * 8) 0 ∷ []) (m ++ o)
      ∙ ap (λ (l : List ℕ). bytes_of (get_or t (8192 + c * 8) 0 ∷ get_or t (8193 + c * 8) 0 ∷ []) ++ l) (bytes-append m o)

-- a class only where there is one
module _ (f : List ℕ) (v : ℕ) where
  abbrev pub first_two : List ℕ
  first_two = bytes_of (get_or f (v * 4) 0 ∷ get_or f (1 + v * 4) 0 ∷ [])

  pub plain-bytes : get_or f (1 + v * 4) 0 ≡ 0 → bytes_of (value_numbers (value_at f v)) ≡ first_two
  unfolding value_at
  plain-bytes e = rw (eq-eqb (get_or f (1 + v * 4) 0) 0 e)

  pub remat-bytes : (get_or f (1 + v * 4) 0 ≡ 0 → ⊥) → bytes_of (value_numbers (value_at f v)) ≡ first_two ++ encoded (get_or f (2 + v * 4) 0)
  unfolding value_at
  remat-bytes n =
      rw (ne_eqb (get_or f (1 + v * 4) 0) 0 n)
      (bytes-append (get_or f (v * 4) 0 ∷ get_or f (1 + v * 4) 0 ∷ []) (get_or f (2 + v * 4) 0 ∷ []) ∙ rw (bytes_one (get_or f (2 + v * 4) 0)))

  pub either-bytes : bytes_of (value_numbers (value_at f v)) ≡ first_two ++ bytes_of (pick (eqb (get_or f (1 + v * 4) 0) 0) [] (get_or f (2 + v * 4) 0 ∷ []))
  unfolding value_at
  either-bytes = bytes-append (get_or f (v * 4) 0 ∷ get_or f (1 + v * 4) 0 ∷ []) (pick (eqb (get_or f (1 + v * 4) 0) 0) [] (get_or f (2 + v * 4) 0 ∷ []))

-- ---- the whole target
module _ (t : List ℕ) where
  pub banks-bytes : bytes_of (length (reg_info_of t).banks ∷ each_of bank_numbers (reg_info_of t).banks) ≡ encoded (get_or t 8737 0) ++ rows bank_numbers (bank_at t) (get_or t 8737 0)
  unfolding reg_info_of
  banks-bytes = counted-rows bank_numbers (bank_at t) (get_or t 8737 0)

  pub regs-bytes : bytes_of (length (reg_info_of t).regs ∷ each_of reg_numbers (reg_info_of t).regs) ≡ encoded (get_or t 8738 0) ++ rows reg_numbers (reg_at t) (get_or t 8738 0)
  unfolding reg_info_of
  regs-bytes = counted-rows reg_numbers (reg_at t) (get_or t 8738 0)

  pub classes-bytes : bytes_of (length (reg_info_of t).classes ∷ each_of class_numbers (reg_info_of t).classes) ≡ encoded (get_or t 8739 0) ++ rows class_numbers (class_at t) (get_or t 8739 0)
  unfolding reg_info_of
  classes-bytes = counted-rows class_numbers (class_at t) (get_or t 8739 0)

  abbrev pub banks_bytes : List ℕ
  banks_bytes = bytes_of (length (reg_info_of t).banks ∷ each_of bank_numbers (reg_info_of t).banks)

  abbrev pub regs_bytes : List ℕ
  regs_bytes = bytes_of (length (reg_info_of t).regs ∷ each_of reg_numbers (reg_info_of t).regs)

  abbrev pub classes_bytes : List ℕ
  classes_bytes = bytes_of (length (reg_info_of t).classes ∷ each_of class_numbers (reg_info_of t).classes)

  pub target-bytes : bytes_of (target_numbers (reg_info_of t)) ≡ encoded (get_or t 8736 0) ++ (banks_bytes ++ (regs_bytes ++ classes_bytes))
  unfolding target_numbers reg_info_of
  target-bytes =
      let b : List ℕ = length (reg_info_of t).banks ∷ each_of bank_numbers (reg_info_of t).banks in
      let r : List ℕ = length (reg_info_of t).regs ∷ each_of reg_numbers (reg_info_of t).regs in
      let c : List ℕ = length (reg_info_of t).classes ∷ each_of class_numbers (reg_info_of t).classes in
      bytes-more (get_or t 8736 0) (b ++ (r ++ c))
      ∙ ap (λ (l : List ℕ). encoded (get_or t 8736 0) ++ l) (bytes-append b (r ++ c) ∙ ap (λ (l : List ℕ). bytes_of b ++ l) (bytes-append r c))

  -- what an accepted target keeps to
  module _ (ok : Accepted (reg_info_of t)) where
    pub few-banks : get_or t 8737 0 ≤ 8
    few-banks = rw (← banks-count t) (banks-fit (reg_info_of t) ok).1

    pub few-regs : (get_or t 8738 0 ≤ 512) × FewUnits t (get_or t 8738 0)
    few-regs = (
      rw (← regs_count t) (regs-fit (reg_info_of t) ok).1,
      λ r h. let k : r < num_regs (reg_info_of t) = rw (regs_count t) h in rw (← units-length t r k) (width_fits (reg_info_of t) ok r k).1,
    )

    pub few-classes : (get_or t 8739 0 ≤ 64) × FewMembers t (get_or t 8739 0)
    few-classes = (
      rw (← classes-count t) (classes-fit (reg_info_of t) ok).1,
      λ c h.
          let k : c < num_classes (reg_info_of t) = rw (classes-count t) h in
          (rw (← members-length t c k) (members-fit (reg_info_of t) ok c k), rw (← order-length t c k) (order-fits (reg_info_of t) ok c k)),
    )

-- ---- the function
pub function-bytes : (f : List ℕ)
    → bytes_of (function_numbers (function_of f))
    ≡ bytes_of (get_or f 16384 0 ∷ get_or f 16385 0 ∷ []) ++ (encoded (get_or f 16386 0) ++ rows value_numbers (value_at f) (get_or f 16384 0))
unfolding function_numbers function_of
function-bytes f =
    let n : ℕ = get_or f 16384 0 in
    let vs : List ℕ = each_of value_numbers (map (value_at f) (indices 0 n)) in
    ap (λ (k : ℕ). bytes_of (k ∷ get_or f 16385 0 ∷ get_or f 16386 0 ∷ vs)) (length-built (value_at f) 0 n)
    ∙ bytes-append (n ∷ get_or f 16385 0 ∷ []) (get_or f 16386 0 ∷ vs)
    ∙ ap (λ (l : List ℕ). bytes_of (n ∷ get_or f 16385 0 ∷ []) ++ l) (bytes-more (get_or f 16386 0) vs ∙ rw (each-bytes value_numbers (value_at f) (indices 0 n)))

pub few-values : (f : List ℕ) → num_values (function_of f) ≤ 4096 → get_or f 16384 0 ≤ 4096
few-values f h = rw (← values-count f) h

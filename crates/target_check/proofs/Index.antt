-- The index of a class's members, as it is written, and a list in which a number stands twice.
use Prim.Native.Nat.{ℕ, zero, suc, ◌+◌, ◌*◌, ◌<◌, ◌≤◌}
use mathlib.Core.Path.{◌≡◌, refl, sym, ap, ◌∙◌}
use mathlib.Core.Bool.{Bool, true, false, true≢false}
use mathlib.Core.List.{List, [], ◌∷◌}
use native.Mathlib.Omega.{arith}
use borrow.Author.Tests.{eqb-true, eqb-false, lt-ltb, le-ltb, ltb-true}
use lib.Dec.{eqb, ltb}
use lib.ListN.{get_or, set, length}
use lib.Seq.{get_or-set_same, get_or-set_other}
use Rattle.entity.specs.Logic.{and, or, has, twice, cells}
use Rattle.entity.proofs.Laws.{never_true, has-where, has_get_d, has-only, length-cells, get_d-cells, all-at}
use Rattle.reginfo.specs.RegInfo.{num_regs, num_classes, class_members}
use Rattle.reginfo.specs.Table.{reg_info_of, IndexedAt}
use Rattle.reginfo.specs.Refused.{outside_limits}
use Rattle.reginfo.proofs.Table.{member_is}
use Rattle.target_limits.proofs.Limits.{counts_of, regs-few, list-known, members-listed}
use Rattle.target_check.specs.Checked.{SameBelow}

-- two places of a list hold the same number
or-true : (a b : Bool) → b ≡ true → or a b ≡ true
or-true true b h = refl
or-true false b h = h

pub twice-pair : (l : List ℕ) (q p : ℕ) → q < p → p < length l → get_or l q 0 ≡ get_or l p 0 → twice l ≡ true
unfolding twice
twice-pair [] q p a b e = absurd (omega arith)
twice-pair (x ∷ l) q zero a b e = absurd (omega arith)
twice-pair (x ∷ l) zero (suc p) a b e = rw (e, has_get_d l p (omega arith))
twice-pair (x ∷ l) (suc q) (suc p) a b e = or-true (has x l) (twice l) (twice-pair l q p (omega arith) (omega arith) e)

-- no two do
pub twice-none : (l : List ℕ) → ((q p : ℕ) → q < p → p < length l → get_or l q 0 ≡ get_or l p 0 → ⊥) → twice l ≡ false
unfolding twice
twice-none [] h = refl
twice-none (x ∷ l) h = rw (never_true (has x l) (λ e. once (has-where x l e))) (twice-none l (λ q p a b e. h (suc q) (suc p) (omega arith) (omega arith) e))
  where
    once : (k : ℕ) × (k < length l) × (get_or l k 0 ≡ x) → ⊥
    once w = h 0 (suc w.0) (omega arith) (omega (arith, w.1)) (sym w.2)

-- a cell's number is among the cells before it
pub again-twice : (t : List ℕ) (at n p : ℕ) → p < n → has (get_or t (at + p) 0) (cells t at p) ≡ true → twice (cells t at n) ≡ true
again-twice t at n p l h = go (has-where (get_or t (at + p) 0) (cells t at p) h)
  where
    go : (k : ℕ) × (k < length (cells t at p)) × (get_or (cells t at p) k 0 ≡ get_or t (at + p) 0) → twice (cells t at n) ≡ true
    go w =
        let k : w.0 < p = rw (length-cells t at p) at w.1 in
        twice-pair (cells t at n) w.0 p k (rw (length-cells t at n) l)
        (get_d-cells t at n w.0 (omega arith) ∙ sym (get_d-cells t at p w.0 k) ∙ w.2 ∙ sym (get_d-cells t at n p l))

-- r is one of the first p members only where the index says
module _ (t : List ℕ) (c p r q : ℕ) (x : IndexedAt t c p) (e : q ≡ get_or t (74752 + c * 512 + r) 0) where
  only-there : has r (cells t (9216 + c * 512) p) ≡ and (ltb q p) (eqb (get_or (cells t (9216 + c * 512) p) q 0) r)
  only-there = rw (length-cells t (9216 + c * 512) p) at (has-only r q (cells t (9216 + c * 512) p) there)
    where
      there : (k : ℕ) → k < length (cells t (9216 + c * 512) p) → get_or (cells t (9216 + c * 512) p) k 0 ≡ r → k ≡ q
      there k l h =
          let b : k < p = rw (length-cells t (9216 + c * 512) p) at l in
          sym (e ∙ ap (λ (y : ℕ). get_or t (74752 + c * 512 + y) 0) (sym (sym (get_d-cells t (9216 + c * 512) p k b) ∙ h)) ∙ x k b)

  pub not-before : p ≤ q → has r (cells t (9216 + c * 512) p) ≡ false
  not-before l = only-there ∙ rw (le-ltb q p l)

  pub before : q < p → has r (cells t (9216 + c * 512) p) ≡ eqb (get_or t (9216 + c * 512 + q) 0) r
  before l = only-there ∙ rw (lt-ltb q p l, get_d-cells t (9216 + c * 512) p q l)

-- n members with an index are different
pub distinct : (t : List ℕ) (c n : ℕ) → IndexedAt t c n → twice (cells t (9216 + c * 512) n) ≡ false
distinct t c n x = twice-none (cells t (9216 + c * 512) n) differ
  where
    differ : (q p : ℕ) → q < p → p < length (cells t (9216 + c * 512) n) → get_or (cells t (9216 + c * 512) n) q 0 ≡ get_or (cells t (9216 + c * 512) n) p 0 → ⊥
    differ q p l b e =
        let k : p < n = rw (length-cells t (9216 + c * 512) n) at b in
        let same : get_or t (9216 + c * 512 + q) 0 ≡ get_or t (9216 + c * 512 + p) 0 = sym (get_d-cells t (9216 + c * 512) n q (omega arith)) ∙ e ∙ get_d-cells t (9216 + c * 512) n p k in
        let z : q ≡ p = sym (x q (omega arith)) ∙ ap (λ (y : ℕ). get_or t (74752 + c * 512 + y) 0) same ∙ x p k in
        omega arith

-- a new member goes into the index
module _ (t : List ℕ) (c p r : ℕ) (long : length t ≡ 107520) (low : c < 64) (few : p < 512) (is : r ≡ get_or t (9216 + c * 512 + p) 0) (small : r < 512) (x : IndexedAt t c p) (new : has r (cells t (9216 + c * 512) p) ≡ false) where
  member-kept : (k : ℕ) → k < 512 → get_or (set t (74752 + c * 512 + r) p) (9216 + c * 512 + k) 0 ≡ get_or t (9216 + c * 512 + k) 0
  member-kept k l = get_or-set_other t (74752 + c * 512 + r) (9216 + c * 512 + k) p 0 (λ e. omega arith)

  other : (k : ℕ) → k < p → get_or t (9216 + c * 512 + k) 0 ≡ r → ⊥
  other k l e = true≢false (sym (rw (get_d-cells t (9216 + c * 512) p k l, e) at (has_get_d (cells t (9216 + c * 512) p) k (rw (length-cells t (9216 + c * 512) p) l))) ∙ new)

  index_at : (k : ℕ) (b : Bool) → eqb k p ≡ b → k < p + 1 → get_or (set t (74752 + c * 512 + r) p) (74752 + c * 512 + get_or t (9216 + c * 512 + k) 0) 0 ≡ k
  index_at k true e l = rw (eqb-true k p e, ← is) (get_or-set_same t (74752 + c * 512 + r) p 0 (omega arith))
  index_at k false e l =
      let d : k ≡ p → ⊥ = eqb-false k p e in
      let m : k < p = omega (arith, d) in
      get_or-set_other t (74752 + c * 512 + r) (74752 + c * 512 + get_or t (9216 + c * 512 + k) 0) p 0 (λ h. other k m (omega arith)) ∙ x k m

  pub indexed-more : IndexedAt (set t (74752 + c * 512 + r) p) c (p + 1)
  indexed-more k l = rw (member-kept k (omega arith)) (index_at k (eqb k p) refl l)

  pub kept : SameBelow (74752 + c * 512) t (set t (74752 + c * 512 + r) p)
  kept i l = get_or-set_other t (74752 + c * 512 + r) i p 0 (λ e. omega arith)

-- tables that agree below a bound
pub same-cells : (t u : List ℕ) (m at n : ℕ) → SameBelow m t u → at + n ≤ m → cells u at n ≡ cells t at n
unfolding cells
same-cells t u m at zero s h = refl
same-cells t u m at (suc n) s h = rw (s at (omega arith), same-cells t u m (at + 1) n s (omega arith))

-- a member of a class of a target within the limits
module _ (t : List ℕ) (h : outside_limits (reg_info_of t) ≡ false) (c : ℕ) (k : c < num_classes (reg_info_of t)) where
  pub member-low : (p : ℕ) → p < length (class_members (reg_info_of t) c) → get_or t (9216 + c * 512 + p) 0 < 512
  member-low p l =
      let b : get_or t (9216 + c * 512 + p) 0 < num_regs (reg_info_of t) = rw (member_is t c k p l) at (ltb-true (get_or (class_members (reg_info_of t) c) p 0) (num_regs (reg_info_of t)) (all-at (λ x. ltb x (num_regs (reg_info_of t))) (class_members (reg_info_of t) c) p 0 (list-known (reg_info_of t) (class_members (reg_info_of t) c) (members-listed (reg_info_of t) h c k)) l)) in
      omega (arith, regs-few (reg_info_of t) (counts_of (reg_info_of t) h))

-- The numbers of a list are marked one after the other, until one is marked already.
use Prim.Native.Nat.{ℕ, zero, suc, ◌+◌, ◌<◌, ◌≤◌}
use mathlib.Core.Path.{◌≡◌, refl, sym, ◌∙◌}
use mathlib.Core.Bool.{Bool, true, false, true≢false}
use mathlib.Core.List.{List}
use native.Mathlib.Omega.{arith}
use borrow.Author.Tests.{eqb-true, eqb-false, ltb-true}
use lib.Arith.{lt_of_le-ne}
use lib.Dec.{eqb, ltb}
use lib.ListN.{get_or, set, length, length-set, replicate, length-replicate}
use lib.Seq.{get_or-set_same, get_or-set_other}
use Rattle.entity.specs.Logic.{twice}
use Rattle.entity.proofs.Laws.{all-at}
use Rattle.reginfo.specs.RegInfo.{RegInfo, num_regs, num_classes, allocation_order}
use Rattle.reginfo.specs.Refused.{outside_limits}
use Rattle.target_limits.proofs.Limits.{counts_of, regs-few, list-known, order-listed}
use Rattle.target_check.proofs.Index.{twice-pair, twice-none}

-- the first p numbers are marked and no other, and they differ
pub record Marked (l : List ℕ) (seen : List Bool) (p : ℕ) : Type 0 where
  pub long : length seen ≡ 512
  pub marked : (k : ℕ) → k < p → get_or seen (get_or l k 0) false ≡ true
  pub only : (x : ℕ) → get_or seen x false ≡ true → (k : ℕ) × (k < p) × (get_or l k 0 ≡ x)
  pub differ : (q k : ℕ) → q < k → k < p → get_or l q 0 ≡ get_or l k 0 → ⊥

none-marked : (n x : ℕ) → get_or (replicate n false) x false ≡ false
none-marked zero x = refl
none-marked (suc n) zero = refl
none-marked (suc n) (suc x) = none-marked n x

pub marked_start : (l : List ℕ) → Marked l (replicate 512 false) 0
marked_start l = record {
  long = length-replicate 512 false;
  marked = λ k h. absurd (omega arith);
  only = λ x h. absurd (true≢false (sym h ∙ none-marked 512 x));
  differ = λ q k a b e. absurd (omega arith);
}

module _ {l : List ℕ} {seen : List Bool} {p : ℕ} (m : Marked l seen p) where
  -- the next number is marked already
  pub marked-again : p < length l → get_or seen (get_or l p 0) false ≡ true → twice l ≡ true
  marked-again b h = let w = m.only (get_or l p 0) h in twice-pair l w.0 p w.1 b w.2

  -- every number is marked
  pub marked_all : length l ≤ p → twice l ≡ false
  marked_all b = twice-none l (λ q k a h e. m.differ q k a (omega arith) e)

  -- the next number, r, is marked now
  module _ (r : ℕ) (is : r ≡ get_or l p 0) (low : r < 512) (new : get_or seen r false ≡ false) where
    marked-at : (k : ℕ) (b : Bool) → eqb (get_or l k 0) r ≡ b → k < p + 1 → get_or (set seen r true) (get_or l k 0) false ≡ true
    marked-at k true e h = rw (eqb-true (get_or l k 0) r e) (get_or-set_same seen r true false (rw m.long low))
    marked-at k false e h =
        let d : get_or l k 0 ≡ r → ⊥ = eqb-false (get_or l k 0) r e in
        let f : k < p = lt_of_le-ne (omega arith) (λ z. d (rw z (sym is))) in
        get_or-set_other seen r (get_or l k 0) true false d ∙ m.marked k f

    only_at : (x : ℕ) (b : Bool) → eqb x r ≡ b → get_or (set seen r true) x false ≡ true → (k : ℕ) × (k < p + 1) × (get_or l k 0 ≡ x)
    only_at x true e h = (p, omega arith, sym (eqb-true x r e ∙ is))
    only_at x false e h = let w = m.only x (sym (get_or-set_other seen r x true false (eqb-false x r e)) ∙ h) in (w.0, omega (arith, w.1), w.2)

    differ-at : (q k : ℕ) (b : Bool) → eqb k p ≡ b → q < k → k < p + 1 → get_or l q 0 ≡ get_or l k 0 → ⊥
    differ-at q k true z a h e =
        let y : k ≡ p = eqb-true k p z in
        let s : get_or l q 0 ≡ r = e ∙ rw y (sym is) in
        true≢false (sym (rw s at (m.marked q (omega arith))) ∙ new)
    differ-at q k false z a h e = m.differ q k a (lt_of_le-ne (omega arith) (eqb-false k p z)) e

    pub marked_more : Marked l (set seen r true) (p + 1)
    marked_more = record {
      long = length-set seen r true ∙ m.long;
      marked = λ k h. marked-at k (eqb (get_or l k 0) r) refl h;
      only = λ x h. only_at x (eqb x r) refl h;
      differ = λ q k a h e. differ-at q k (eqb k p) refl a h e;
    }

-- a register of a class's order in a target within the limits
module _ (t : RegInfo) (h : outside_limits t ≡ false) (c : ℕ) (k : c < num_classes t) where
  pub order-low : (p : ℕ) → p < length (allocation_order t c) → get_or (allocation_order t c) p 0 < 512
  order-low p l =
      let order = allocation_order t c in
      let below = all-at (λ x. ltb x (num_regs t)) order p 0 (list-known t order (order-listed t h c k)) l in
      let b = ltb-true (get_or order p 0) (num_regs t) below in
      omega (arith, regs-few t (counts_of t h))

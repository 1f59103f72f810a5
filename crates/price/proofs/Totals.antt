-- The three sums are one.
use Prim.Native.Nat.{ℕ, zero, suc, ◌+◌, ◌<◌, ◌≤◌}
use native.Mathlib.Omega.{arith}
use mathlib.Core.Path.{◌≡◌, refl, sym, ap, ◌∙◌}
use mathlib.Core.Bool.{Bool, true, false}
use mathlib.Core.List.{List, [], ◌∷◌, reverse_aux}
use lib.Dec.{eqb, ltb}
use lib.ListN.{length, get_or}
use borrow.Author.Tests.{eqb-true, eqb-false, ne_eqb, ltb-true, ltb-false}
use Rattle.entity.specs.Logic.{pick}
use Rattle.reginfo.specs.RegInfo.{Reg, RegInfo, no_reg, num_regs, num_banks, bank_for_reg}
use Rattle.reginfo.specs.Refused as target
use Rattle.reginfo.proofs.Accepted.{banks-fit, reg-bank-fits}
use Rattle.function.specs.Function.{ValueData, Function, no_value, num_values, value_bank}
use Rattle.function.specs.Refused as function
use Rattle.function.proofs.Laws.{bank-there}
use Rattle.rules.specs.Edit.{Edit, Move, Rematerialize, EmergencySpill, EmergencyReload}
use Rattle.price.specs.Price.{price_of}
use Rattle.price.specs.Totals.{bank_of, added, from_first, from_last, in_bank, by_bank, Totals}

module _ {A : Type 0} (price : A → ℕ) where
  -- what was added before comes out
  pub out : (a : ℕ) (l : List A) → added price a l ≡ a + added price 0 l
  unfolding added
  out a [] = omega arith
  out a (x ∷ l) = out (a + price x) l ∙ (let e = out (0 + price x) l in omega (arith, e))

  turned : (l r : List A) → added price 0 (reverse_aux l r) ≡ added price 0 l + added price 0 r
  unfolding added
  turned [] r = omega arith
  turned (x ∷ l) r = turned l (x ∷ r) ∙ (let e = out (0 + price x) l in let g = out (0 + price x) r in omega (arith, e, g))

  from_last_lem : (l : List A) → from_first price l ≡ from_last price l
  unfolding added
  from_last_lem l = omega (arith, turned l [])

  module _ (bank : A → ℕ) where
    -- one more is one more in its own bank
    here : (x : A) (l : List A) (b : ℕ) → from_first price (in_bank bank b (x ∷ l)) ≡ pick (eqb (bank x) b) (price x) 0 + from_first price (in_bank bank b l)
    unfolding added in_bank
    here x l b = go (eqb (bank x) b)
      where
        go : (t : Bool) → added price 0 (pick t (x ∷ in_bank bank b l) (in_bank bank b l)) ≡ pick t (price x) 0 + added price 0 (in_bank bank b l)
        go true = out (0 + price x) (in_bank bank b l) ∙ omega arith
        go false = omega arith

    strict : (a n : ℕ) → a < suc n → (a ≡ n → ⊥) → a < n
    strict a n h g = omega arith

    below : (x : A) (l : List A) (n : ℕ) → n ≤ bank x → by_bank price bank n (x ∷ l) ≡ by_bank price bank n l
    unfolding by_bank
    below x l zero h = refl
    below x l (suc n) h = rw (here x l n, ne_eqb (bank x) n (λ e. omega arith), below x l n (omega arith)) (omega arith)

    above : (x : A) (l : List A) (n : ℕ) → bank x < n → by_bank price bank n (x ∷ l) ≡ price x + by_bank price bank n l
    unfolding by_bank
    above x l zero h = absurd (omega arith)
    above x l (suc n) h = go (eqb (bank x) n) refl (λ g. above x l n g)
      where
        go : (t : Bool) → eqb (bank x) n ≡ t → (bank x < n → by_bank price bank n (x ∷ l) ≡ price x + by_bank price bank n l)
            → by_bank price bank n (x ∷ l) + from_first price (in_bank bank n (x ∷ l)) ≡ price x + (by_bank price bank n l + from_first price (in_bank bank n l))
        go true e k = let i = here x l n in rw (i, e, below x l n (omega (arith, eqb-true (bank x) n e))) (omega arith)
        go false e k = rw (here x l n, e, k (strict (bank x) n h (eqb-false (bank x) n e))) (omega arith)

    nothing : (n : ℕ) → by_bank price bank n [] ≡ 0
    unfolding by_bank added in_bank
    nothing zero = refl
    nothing (suc n) = rw (nothing n)

    bank-by-bank : (n : ℕ) → ((x : A) → bank x < n) → (l : List A) → from_first price l ≡ by_bank price bank n l
    unfolding added
    bank-by-bank n h [] = sym (nothing n)
    bank-by-bank n h (x ∷ l) = omega (arith, out (0 + price x) l, bank-by-bank n h l, above x l n (h x))

-- past the end there is the default
past : {A : Type 0} (l : List A) (i : ℕ) (d : A) → length l ≤ i → get_or l i d ≡ d
past [] i d h = refl
past (x ∷ l) zero d h = absurd (omega arith)
past (x ∷ l) (suc i) d h = past l i d (omega arith)

past-values : (f : Function) (v : ℕ) → num_values f ≤ v → value_bank f v ≡ 0
unfolding value_bank
past-values f v h = ap (λ (x : ValueData). x.bank) (past f.values v no_value h)

past-regs : (t : RegInfo) (r : ℕ) → num_regs t ≤ r → bank_for_reg t r ≡ 0
unfolding bank_for_reg
past-regs t r h = ap (λ (x : Reg). x.bank) (past t.regs r no_reg h)

module _ (t : RegInfo) (f : Function) (ok : target.Accepted t) (fok : function.Accepted t f) where
  value_in : (v : ℕ) → value_bank f v < num_banks t
  value_in v = go (ltb v (num_values f)) refl
    where
      go : (b : Bool) → ltb v (num_values f) ≡ b → value_bank f v < num_banks t
      go true e = bank-there t f fok v (ltb-true _ _ e)
      go false e = rw (past-values f v (ltb-false _ _ e)) (omega (arith, (banks-fit t ok).0))

  reg_in : (r : ℕ) → bank_for_reg t r < num_banks t
  reg_in r = go (ltb r (num_regs t)) refl
    where
      go : (b : Bool) → ltb r (num_regs t) ≡ b → bank_for_reg t r < num_banks t
      go true e = reg-bank-fits t ok r (ltb-true _ _ e)
      go false e = rw (past-regs t r (ltb-false _ _ e)) (omega (arith, (banks-fit t ok).0))

  bank-in : (e : Edit) → bank_of t f e < num_banks t
  bank-in (Move to from v) = value_in v
  bank-in (Rematerialize to v) = value_in v
  bank-in (EmergencySpill s r) = reg_in r
  bank-in (EmergencyReload r s) = reg_in r

pub totals : Totals
totals t f ok fok p es = (from_last_lem (price_of p) es, bank-by-bank (price_of p) (bank_of t f) (num_banks t) (bank-in t f ok fok) es)

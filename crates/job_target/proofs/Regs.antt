-- The registers of a target.
use Prim.Native.Nat.{ℕ, ◌+◌, ◌-◌, ◌*◌, ◌<◌, ◌≤◌}
use mathlib.Core.Path.{◌≡◌, refl, ◌∙◌}
use mathlib.Core.Bool.{Bool, true, false}
use mathlib.Core.List.{List, [], map}
use native.Mathlib.Omega.{arith}
use lib.Dec.{eqb}
use lib.ListN.{get_or}
use borrow.Author.Tests.{eqb-true, eqb-false}
use Rattle.entity.specs.Logic.{indices, cells}
use Rattle.reginfo.specs.RegInfo.{Reg}
use Rattle.reginfo.specs.Table.{reg_at}
use Rattle.number.specs.Read.{Read, got, then}
use Rattle.number.specs.declared.Number.TheVariants.{Is, Refused}
use Rattle.reading.specs.Reading.{below, between, times, distinct}
use Rattle.reading.specs.Answer.{ReadAt, NextAt}
use Rattle.reading.specs.declared.Next as X
use Rattle.reading.proofs.Laws.{in-range, number-refused, number-then, made}
use Rattle.job_target.specs.Target.{reg}
use Rattle.job_target.specs.Steps.{Keeps, ListKept, RegKept, FewUnits, RegsKept}
use Rattle.job_target.proofs.Table.{keeps_same, keeps_then, keeps-more, reg-kept}
use Rattle.job_target.proofs.Rows.{Rows, rows_start, rows_step, rows-refused, rows_end}

-- what is left of a register
abbrev units_of : ℕ → ℕ → ℕ → ℕ → List ℕ → Read Reg
units_of units memory b n p = then (distinct n units [] p) (λ us o. got (record { memory = memory; bank = b; units = us }) o)

abbrev count_of : ℕ → ℕ → ℕ → List ℕ → Read Reg
count_of units memory b q = then (between 1 8 q) (λ n p. units_of units memory b n p)

abbrev bank_of : ℕ → ℕ → ℕ → List ℕ → Read Reg
bank_of units banks memory r = then (below banks r) (λ b q. count_of units memory b q)

module _ (units banks : ℕ) (s : List ℕ) (at : ℕ) (x : Reg) (kept : Type 0) where
  pub no-memory : (k : ℕ) → ReadAt (below 2) s at (Refused k) → NextAt (reg units banks) s at x kept (X.TheVariants.Refused k)
  unfolding reg
  no-memory k h = number-refused (below 2) (bank_of units banks) s at x kept k h

  module _ (memory a : ℕ) (h : ReadAt (below 2) s at (Is memory a)) where
    pub no-bank : (k : ℕ) → ReadAt (below banks) s a (Refused k) → NextAt (reg units banks) s at x kept (X.TheVariants.Refused k)
    unfolding reg
    no-bank k g = number-then (below 2) (bank_of units banks) s at x kept memory a (X.TheVariants.Refused k) h (number-refused (below banks) (count_of units memory) s a x kept k g)

    module _ (b d : ℕ) (g : ReadAt (below banks) s a (Is b d)) where
      with-bank : (r : X.Next) → NextAt (count_of units memory b) s d x kept r → NextAt (reg units banks) s at x kept r
      unfolding reg
      with-bank r f = number-then (below 2) (bank_of units banks) s at x kept memory a r h (number-then (below banks) (count_of units memory) s a x kept b d r g f)

      pub no-count : (k : ℕ) → ReadAt (between 1 8) s d (Refused k) → NextAt (reg units banks) s at x kept (X.TheVariants.Refused k)
      no-count k f = with-bank (X.TheVariants.Refused k) (number-refused (between 1 8) (units_of units memory b) s d x kept k f)

      pub with-count : (n e : ℕ) (r : X.Next) → ReadAt (between 1 8) s d (Is n e) → NextAt (units_of units memory b n) s e x kept r → NextAt (reg units banks) s at x kept r
      with-count n e r f o = with-bank r (number-then (between 1 8) (units_of units memory b) s d x kept n e r f o)

-- the cells of a register, its units read last
module _ (t u v : List ℕ) (r memory b n : ℕ) (put : (get_or u (r * 16) 0 ≡ memory) × (get_or u (1 + r * 16) 0 ≡ b) × (get_or u (2 + r * 16) 0 ≡ n) × Keeps t u (r * 16) 3) (few : n ≤ 8) where
  row_is : ListKept u v (8 + r * 16) n → record { memory = memory; bank = b; units = cells v (8 + r * 16) n } ≡ reg_at v r
  unfolding reg_at
  row_is k =
      let x : get_or v (r * 16) 0 ≡ memory = k.keeps.before (r * 16) (omega arith) ∙ put.0 in
      let y : get_or v (1 + r * 16) 0 ≡ b = k.keeps.before (1 + r * 16) (omega arith) ∙ put.1 in
      let z : get_or v (2 + r * 16) 0 ≡ n = k.keeps.before (2 + r * 16) (omega arith) ∙ put.2 in
      rw (x, y, z)

  row_kept : ListKept u v (8 + r * 16) n → RegKept t v r
  row_kept k = record {
    few = omega (arith, k.keeps.before (2 + r * 16) (omega arith), put.2);
    keeps = keeps_then t u v (r * 16) 16 (keeps-more t u (r * 16) 3 (r * 16) 16 (omega arith) (omega arith) put.3) (keeps-more u v (8 + r * 16) n (r * 16) 16 (omega arith) (omega arith) k.keeps);
  }

  pub units-read : (units : ℕ) (s : List ℕ) (e : ℕ) (res : X.Next) → NextAt (distinct n units []) s e (cells v (8 + r * 16) n) (ListKept u v (8 + r * 16) n) res → NextAt (units_of units memory b n) s e (reg_at v r) (RegKept t v r) res
  units-read units s e res h = made (distinct n units []) (λ (us : List ℕ). record { memory = memory; bank = b; units = us }) s e (cells v (8 + r * 16) n) (reg_at v r) (ListKept u v (8 + r * 16) n) (RegKept t v r) res row_is row_kept h

pub reg_read : (units banks : ℕ) (s : List ℕ) (at memory a b d n e r : ℕ) (t u v : List ℕ) (res : X.Next) → ReadAt (below 2) s at (Is memory a) → ReadAt (below banks) s a (Is b d) → ReadAt (between 1 8) s d (Is n e)
    → (get_or u (r * 16) 0 ≡ memory) × (get_or u (1 + r * 16) 0 ≡ b) × (get_or u (2 + r * 16) 0 ≡ n) × Keeps t u (r * 16) 3
    → NextAt (distinct n units []) s e (cells v (8 + r * 16) n) (ListKept u v (8 + r * 16) n) res → NextAt (reg units banks) s at (reg_at v r) (RegKept t v r) res
reg_read units banks s at memory a b d n e r t u v res f g h put l =
    with-count units banks s at (reg_at v r) (RegKept t v r) memory a f b d g n e res h
    (units-read t u v r memory b n put (in-range 1 8 s d n e h).1 units s e res l)

-- ---- the rows
pub record RegRows (units banks : ℕ) (s : List ℕ) (from n : ℕ) (t₀ t : List ℕ) (at r left : ℕ) : Type 0 where
  pub rows : Rows (reg units banks) reg_at s from n t at r left
  pub kept : RegsKept t₀ t r

module _ (units banks : ℕ) (s : List ℕ) (from n : ℕ) (most : n ≤ 512) (t₀ : List ℕ) where
  pub regs-start : RegRows units banks s from n t₀ t₀ from 0 n
  regs-start = record {
    rows = rows_start (reg units banks) reg_at s from n t₀;
    kept = record { few = λ r l. absurd (omega arith); keeps = keeps_same t₀ 0 8192 };
  }

  module _ (t : List ℕ) (at r left : ℕ) (h : RegRows units banks s from n t₀ t at r left) (t' : List ℕ) where
    few-more : RegKept t t' r → FewUnits t' (r + 1)
    few-more k q l = go (eqb q r) refl
      where
        go : (b : Bool) → eqb q r ≡ b → get_or t' (2 + q * 16) 0 ≤ 8
        go true e = rw (eqb-true q r e) k.few
        go false e =
            let d : q ≡ r → ⊥ = eqb-false q r e in
            let m : q < r = omega (arith, d) in
            rw (k.keeps.before (2 + q * 16) (omega arith)) (h.kept.few q m)

    pub regs-step : (next : ℕ) → 0 < left → NextAt (reg units banks) s at (reg_at t' r) (RegKept t t' r) (X.TheVariants.At next) → RegRows units banks s from n t₀ t' next (r + 1) (left - 1)
    regs-step next l g = record {
      rows = rows_step (reg units banks) reg_at s from n t at r left h.rows t' (RegKept t t' r) next l g (λ k z. reg-kept t t' r k g.past.2.keeps (h.kept.few k z) z);
      kept = record {
        few = few-more g.past.2;
        keeps = keeps_then t₀ t t' 0 8192 h.kept.keeps (keeps-more t t' (r * 16) 16 0 8192 (omega arith) (omega (arith, h.rows.sum)) g.past.2.keeps);
      };
    }

    pub regs-refused : (k : ℕ) (y : List Reg) (also : Type 0) → 0 < left → NextAt (reg units banks) s at (reg_at t' r) (RegKept t t' r) (X.TheVariants.Refused k) → NextAt (times n (reg units banks)) s from y also (X.TheVariants.Refused k)
    regs-refused k y also l g = rows-refused (reg units banks) reg_at s from n t at r left h.rows t' (RegKept t t' r) k y also l g

  pub regs-end : (t : List ℕ) (at r left : ℕ) → RegRows units banks s from n t₀ t at r left → left ≤ 0 → NextAt (times n (reg units banks)) s from (map (reg_at t) (indices 0 n)) (RegsKept t₀ t n) (X.TheVariants.At at)
  regs-end t at r left h z =
      let e : r ≡ n = omega (arith, h.rows.sum) in
      rows_end (reg units banks) reg_at s from n t at r left (RegsKept t₀ t n) h.rows z (rw e at h.kept)

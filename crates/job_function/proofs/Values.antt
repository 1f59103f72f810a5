-- Values: what the readers answer in each case, and the rows of the table that they fill.
use Prim.Native.Nat.{ℕ, ◌+◌, ◌-◌, ◌*◌, ◌<◌, ◌≤◌}
use mathlib.Core.Path.{◌≡◌, sym, ◌∙◌}
use mathlib.Core.List.{List, [], ◌∷◌, ◌++◌}
use native.Mathlib.Omega.{arith}
use native.Mathlib.Numerals.{add-one}
use lib.ListN.{length, get_or, drop, set, length-set}
use lib.Seq.{get_or-set_same, get_or-set_other}
use lib.Dec.{eqb, ltb, leb}
use borrow.Author.Tests.{ltb-true, leb-true, eq-eqb, ne_eqb}
use Rattle.entity.specs.declared.RegBank.{RegBank}
use Rattle.entity.specs.declared.RegClass.{RegClass}
use Rattle.entity.specs.Logic.{pick, and, indices}
use Rattle.entity.proofs.Laws.{and-true}
use Rattle.reginfo.specs.RegInfo.{RegInfo, num_banks, num_classes, bank_for_class}
use Rattle.function.specs.Function.{ValueData}
use Rattle.function.specs.Table.{value_at}
use Rattle.number.specs.Read.{Read, got, refused, then}
use Rattle.number.specs.declared.Number as N
use Rattle.reading.specs.Reading.{below, between, times}
use Rattle.reading.specs.Answer.{ReadAt, NextAt}
use Rattle.reading.specs.declared.Next as X
use Rattle.reading.proofs.Laws.{passed}
use Rattle.reading.proofs.Lists.{rows_more, Timing, timing-start, timing-step, timing-refused, timing-end}
use Rattle.job_function.specs.Reads.{remat_value, value}
use Rattle.job_function.specs.Answer.{first_values, row_of, RowOnward, RowRead}
use Rattle.job_function.specs.declared.Row as R
use Rattle.job_function.specs.declared.Row.{Row}

-- ---- a number that was read
pub below-limit : (m : ℕ) (s : List ℕ) (at n next : ℕ) → ReadAt (below m) s at (N.TheVariants.Is n next) → n < m
below-limit m s at n next h = ltb-true n m (passed (λ x. ltb x m) s at n next h)

pub at_most : (low m : ℕ) (s : List ℕ) (at n next : ℕ) → ReadAt (between low m) s at (N.TheVariants.Is n next) → n ≤ m
at_most low m s at n next h = leb-true n m (and-true (leb low n) (leb n m) (passed (λ x. and (leb low x) (leb x m)) s at n next h)).1

-- ---- a number of a value, then the rest of it
module _ (d : List ℕ → Read ℕ) (f : ℕ → List ℕ → Read ValueData) (s : List ℕ) (at : ℕ) where
  row-refused : (k : ℕ) → ReadAt d s at (N.TheVariants.Refused k) → RowRead (λ l. then (d l) f) s at (R.TheVariants.Refused k)
  row-refused k h = record { reads = rw (← h.reads); onward = tt }

  row-then : (n next : ℕ) (r : Row) → ReadAt d s at (N.TheVariants.Is n next) → row_of s r ≡ f n (drop next s) → (RowOnward s next r) → RowRead (λ l. then (d l) f) s at r
  row-then n next r h e g = record { reads = rw (← h.reads) e; onward = on r g }
    where
      on : (r : Row) → RowOnward s next r → RowOnward s at r
      on (R.TheVariants.Is b cost c q) p = (omega (arith, h.onward.0, p.0), p.1)
      on (R.TheVariants.Refused k) p = tt

  row_ends : (n next : ℕ) (b : RegBank) (cost : ℕ) (c : RegClass) → ReadAt d s at (N.TheVariants.Is n next) → got (record { bank = b.0; cost = cost; class = c.0 }) (drop next s) ≡ f n (drop next s) → RowRead (λ l. then (d l) f) s at (R.TheVariants.Is b cost c next)
  row_ends n next b cost c h e = record { reads = rw (← h.reads) e; onward = h.onward }

-- ---- the class of a value that can be rebuilt
module _ (t : RegInfo) (b : RegBank) (cost : ℕ) (s : List ℕ) (at m : ℕ) (is : m ≡ num_classes t) where
  abbrev classed : ℕ → List ℕ → Read ValueData
  classed c r = pick (eqb (bank_for_class t c) b.0) (got (record { bank = b.0; cost = cost; class = c }) r) (refused 9)

  pub no-class : (k : ℕ) → ReadAt (below m) s at (N.TheVariants.Refused k) → RowRead (remat_value t b.0 cost) s at (R.TheVariants.Refused k)
  unfolding remat_value
  no-class k h = row-refused (below (num_classes t)) classed s at k (rw is at h)

  module _ (c next own : ℕ) (h : ReadAt (below m) s at (N.TheVariants.Is c next)) (o : own ≡ bank_for_class t c) where
    pub own-class : own ≡ b.0 → RowRead (remat_value t b.0 cost) s at (R.TheVariants.Is b cost (record { 0 = c }) next)
    unfolding remat_value
    own-class e = row_ends (below (num_classes t)) classed s at c next b cost (record { 0 = c }) (rw is at h) (rw (eq-eqb (bank_for_class t c) b.0 (sym o ∙ e)))

    pub foreign-class : (own ≡ b.0 → ⊥) → RowRead (remat_value t b.0 cost) s at (R.TheVariants.Refused 9)
    unfolding remat_value
    foreign-class n = row-then (below (num_classes t)) classed s at c next (R.TheVariants.Refused 9) (rw is at h) (rw (ne_eqb (bank_for_class t c) b.0 (λ e. n (o ∙ e)))) tt

-- ---- a value
module _ (t : RegInfo) (s : List ℕ) (at m : ℕ) (is : m ≡ num_banks t) where
  abbrev costed : ℕ → ℕ → List ℕ → Read ValueData
  costed b cost q = pick (eqb cost 0) (got (record { bank = b; cost = 0; class = 0 }) q) (remat_value t b cost q)

  abbrev banked : ℕ → List ℕ → Read ValueData
  banked b r = then (below 3 r) (costed b)

  pub no-bank : (k : ℕ) → ReadAt (below m) s at (N.TheVariants.Refused k) → RowRead (value t) s at (R.TheVariants.Refused k)
  unfolding value
  no-bank k h = row-refused (below (num_banks t)) banked s at k (rw is at h)

  module _ (b a : ℕ) (h : ReadAt (below m) s at (N.TheVariants.Is b a)) where
    bank-then : (r : Row) → RowRead (banked b) s a r → RowRead (value t) s at r
    unfolding value
    bank-then r g = row-then (below (num_banks t)) banked s at b a r (rw is at h) g.reads g.onward

    pub no-cost : (k : ℕ) → ReadAt (below 3) s a (N.TheVariants.Refused k) → RowRead (value t) s at (R.TheVariants.Refused k)
    no-cost k g = bank-then (R.TheVariants.Refused k) (row-refused (below 3) (costed b) s a k g)

    module _ (cost q : ℕ) (g : ReadAt (below 3) s a (N.TheVariants.Is cost q)) where
      pub never-remat : cost ≡ 0 → RowRead (value t) s at (R.TheVariants.Is (record { 0 = b }) 0 (record { 0 = 0 }) q)
      never-remat e = bank-then (R.TheVariants.Is (record { 0 = b }) 0 (record { 0 = 0 }) q) (row_ends (below 3) (costed b) s a cost q (record { 0 = b }) 0 (record { 0 = 0 }) g (rw (eq-eqb cost 0 e)))

      pub can-remat : (cost ≡ 0 → ⊥) → (r : Row) → RowRead (remat_value t b cost) s q r → RowRead (value t) s at r
      can-remat n r w = bank-then r (row-then (below 3) (costed b) s a cost q r g (rw (ne_eqb cost 0 n) w.reads) w.onward)

-- ---- a row of the table
module _ (f : List ℕ) (long : length f ≡ 16388) (v : ℕ) (low : v < 4096) (b cost c : ℕ) where
  abbrev pub filled : List ℕ
  filled = set (set (set f (v * 4) b) (1 + v * 4) cost) (2 + v * 4) c

  filled-long : length filled ≡ 16388
  filled-long = simp length-set long

  filled-here : value_at filled v ≡ record { bank = b; cost = cost; class = c }
  unfolding value_at
  filled-here =
      let f₁ = set f (v * 4) b in
      let f₂ = set f₁ (1 + v * 4) cost in
      let l₁ : length f₁ ≡ 16388 = length-set f (v * 4) b ∙ long in
      let l₂ : length f₂ ≡ 16388 = length-set f₁ (1 + v * 4) cost ∙ l₁ in
      rw (get_or-set_other f₂ (2 + v * 4) (v * 4) c 0 (λ e. omega arith), get_or-set_other f₁ (1 + v * 4) (v * 4) cost 0 (λ e. omega arith), get_or-set_same f (v * 4) b 0 (omega arith), get_or-set_other f₂ (2 + v * 4) (1 + v * 4) c 0 (λ e. omega arith), get_or-set_same f₁ (1 + v * 4) cost 0 (omega arith), get_or-set_same f₂ (2 + v * 4) c 0 (omega arith))

  filled-others : (k : ℕ) → k < v → value_at filled k ≡ value_at f k
  unfolding value_at
  filled-others k h =
      let f₁ = set f (v * 4) b in
      let f₂ = set f₁ (1 + v * 4) cost in
      let at : (i : ℕ) → i < v * 4 → get_or filled i 0 ≡ get_or f i 0 = λ i l. get_or-set_other f₂ (2 + v * 4) i c 0 (λ e. omega arith) ∙ get_or-set_other f₁ (1 + v * 4) i cost 0 (λ e. omega arith) ∙ get_or-set_other f (v * 4) i b 0 (λ e. omega arith) in
      rw (at (k * 4) (omega arith), at (1 + k * 4) (omega arith), at (2 + k * 4) (omega arith))

  filled_more : first_values filled (v + 1) ≡ first_values f v ++ (record { bank = b; cost = cost; class = c } ∷ [])
  filled_more =
      let z : 0 + v ≡ v = omega arith in
      let same : (k : ℕ) → k < v → value_at filled (0 + k) ≡ value_at f (0 + k) = λ k h. let e : 0 + k ≡ k = omega arith in rw e (filled-others k h) in
      rw (add-one v, rows_more (value_at f) (value_at filled) 0 v same, z, filled-here)

-- ---- the values read so far stand in the first v rows
module _ (t : RegInfo) (s : List ℕ) (from n : ℕ) where
  pub record Filling (f : List ℕ) (at v : ℕ) : Type 0 where
    pub timing : Timing (value t) s from n (first_values f v) at (n - v)
    pub long : length f ≡ 16388
    pub within : v ≤ n

  pub filling-start : (f : List ℕ) → length f ≡ 16388 → Filling f from 0
  unfolding indices
  filling-start f l = let e : n - 0 ≡ n = omega arith in record { timing = rw e (timing-start (value t) s from n); long = l; within = omega arith }

  module _ (f : List ℕ) (at v : ℕ) (i : Filling f at v) (low : v < n) (few : n ≤ 4096) where
    pub filling_step : (b : RegBank) (cost : ℕ) (c : RegClass) (next : ℕ) → RowRead (value t) s at (R.TheVariants.Is b cost c next) → Filling (filled f i.long v (omega arith) b.0 cost c.0) next (v + 1)
    filling_step b cost c next h =
        let x : ValueData = record { bank = b.0; cost = cost; class = c.0 } in
        let one : NextAt (value t) s at x Unit (X.TheVariants.At next) = record { reads = h.reads; past = (omega (arith, h.onward.0), (λ _. h.onward.1), tt) } in
        let e : n - (v + 1) ≡ n - v - 1 = omega arith in
        record {
          timing = rw (filled_more f i.long v (omega arith) b.0 cost c.0, e) (timing-step (value t) s from n (first_values f v) at (n - v) i.timing x Unit next (omega arith) one);
          long = filled-long f i.long v (omega arith) b.0 cost c.0;
          within = omega arith;
        }

    pub filling-refused : (k : ℕ) → RowRead (value t) s at (R.TheVariants.Refused k) → NextAt (times n (value t)) s from (first_values f n) Unit (X.TheVariants.Refused k)
    filling-refused k h =
        let x : ValueData = record { bank = 0; cost = 0; class = 0 } in
        let one : NextAt (value t) s at x Unit (X.TheVariants.Refused k) = record { reads = h.reads; past = tt } in
        timing-refused (value t) s from n (first_values f v) at (n - v) i.timing x Unit k (first_values f n) Unit (omega arith) one

  pub filling-end : (f : List ℕ) (at v : ℕ) → Filling f at v → n ≤ v → NextAt (times n (value t)) s from (first_values f n) Unit (X.TheVariants.At at)
  filling-end f at v i h =
      let e : v ≡ n = omega (arith, i.within) in
      rw e at (timing-end (value t) s from n (first_values f v) at (n - v) Unit i.timing (omega arith) tt)

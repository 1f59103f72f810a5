-- Rows of the table that are read one after the other.
use Prim.Native.Nat.{ℕ, suc, ◌+◌, ◌-◌, ◌<◌, ◌≤◌}
use mathlib.Core.Path.{◌≡◌}
use mathlib.Core.List.{List, [], ◌∷◌, ◌++◌, map}
use native.Mathlib.Omega.{arith}
use Rattle.entity.specs.Logic.{indices}
use Rattle.number.specs.Read.{Read}
use Rattle.reading.specs.Reading.{times}
use Rattle.reading.specs.Answer.{NextAt}
use Rattle.reading.specs.declared.Next as X
use Rattle.reading.proofs.Lists.{Timing, timing-start, timing-step, timing-refused, timing-end, rows_more}

-- one row more, the rows before it kept
pub row_more : {A : Type 0} (f g : ℕ → A) (i : ℕ) → ((k : ℕ) → k < i → g k ≡ f k) → map g (indices 0 (i + 1)) ≡ map f (indices 0 i) ++ (g i ∷ [])
row_more f g i h =
    let a : i + 1 ≡ suc i = omega arith in
    let b : 0 + i ≡ i = omega arith in
    rw a (rw b at (rows_more f g 0 i (λ k l. let e : 0 + k ≡ k = omega arith in rw e (h k l))))

module _ {A : Type 0} (one : List ℕ → Read A) (f : List ℕ → ℕ → A) (s : List ℕ) (from n : ℕ) where
  pub record Rows (t : List ℕ) (at i left : ℕ) : Type 0 where
    pub timing : Timing one s from n (map (f t) (indices 0 i)) at left
    pub sum : i + left ≡ n

  pub rows_start : (t : List ℕ) → Rows t from 0 n
  unfolding indices
  rows_start t = record { timing = timing-start one s from n; sum = omega arith }

  module _ (t : List ℕ) (at i left : ℕ) (h : Rows t at i left) (t' : List ℕ) (kept : Type 0) where
    pub rows_step : (next : ℕ) → 0 < left → NextAt one s at (f t' i) kept (X.TheVariants.At next) → ((k : ℕ) → k < i → f t' k ≡ f t k) → Rows t' next (i + 1) (left - 1)
    rows_step next l g same = record {
      timing = rw (row_more (f t) (f t') i same) (timing-step one s from n (map (f t) (indices 0 i)) at left h.timing (f t' i) kept next l g);
      sum = omega (arith, h.sum);
    }

    pub rows-refused : (k : ℕ) (y : List A) (also : Type 0) → 0 < left → NextAt one s at (f t' i) kept (X.TheVariants.Refused k) → NextAt (times n one) s from y also (X.TheVariants.Refused k)
    rows-refused k y also l g = timing-refused one s from n (map (f t) (indices 0 i)) at left h.timing (f t' i) kept k y also l g

  pub rows_end : (t : List ℕ) (at i left : ℕ) (also : Type 0) → Rows t at i left → left ≤ 0 → also → NextAt (times n one) s from (map (f t) (indices 0 n)) also (X.TheVariants.At at)
  rows_end t at i left also h z a =
      let e : i ≡ n = omega (arith, h.sum) in
      timing-end one s from n (map (f t) (indices 0 n)) at left also (rw e at h.timing) z a

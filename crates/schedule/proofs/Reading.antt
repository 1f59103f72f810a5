-- A call's numbers are read as they are defined.
use Prim.Native.Nat.{ℕ, ◌+◌, ◌-◌, ◌<◌, ◌≤◌}
use mathlib.Core.Path.{◌≡◌, refl, sym, ◌∙◌}
use mathlib.Core.List.{List, [], ◌∷◌, ◌++◌}
use native.Mathlib.Omega.{arith}
use native.Mathlib.Numerals.{add-one}
use lib.ListN.{length, take, set, length-set}
use lib.Seq.{take-suc-set}
use Rattle.number.specs.Number.{number}
use Rattle.number.specs.Answer.{NumberAt}
use Rattle.number.specs.declared.Number.{Number}
use Rattle.number.specs.declared.Number.TheVariants as N
use Rattle.reading.specs.Reading.{below, times}
use Rattle.reading.specs.Answer.{ReadAt, NextAt}
use Rattle.reading.specs.declared.Next.{Next}
use Rattle.reading.specs.declared.Next.TheVariants as X
use Rattle.reading.proofs.Laws.{under}
use Rattle.reading.proofs.Lists.{Timing, timing-start, timing-step, timing-refused, timing-end}
use Rattle.schedule.specs.declared.Lists.TheVariants as L
use Rattle.schedule.specs.Lists.{listed, ListAt, patched, ListsAt}

-- ---- the numbers read so far stand at the front
module _ (s : List ℕ) (from n : ℕ) where
  pub record Listing (numbers : List ℕ) (at i : ℕ) : Type 0 where
    pub timing : Timing number s from n (take i numbers) at (n - i)
    pub long : length numbers ≡ 1024
    pub within : i ≤ n

  pub listing_start : (numbers : List ℕ) → length numbers ≡ 1024 → Listing numbers from 0
  listing_start numbers l = let e : n - 0 ≡ n = omega arith in record { timing = rw e (timing-start number s from n); long = l; within = omega arith }

  module _ (numbers : List ℕ) (at i : ℕ) (g : Listing numbers at i) (low : i < n) (r : Number) (h : NumberAt s at r) where
    pub listing_step : n ≤ 1024 → (x next : ℕ) → r ≡ N.Is x next → Listing (set numbers i x) next (i + 1)
    listing_step few x next e =
        let a : NumberAt s at (N.Is x next) = rw e at h in
        let one : NextAt number s at x Unit (X.At next) = record { reads = a.reads; past = (omega (arith, a.onward.0), (λ _. a.onward.1), tt) } in
        let t : take (i + 1) (set numbers i x) ≡ take i numbers ++ (x ∷ []) = rw (add-one i) (take-suc-set numbers i x (omega (arith, g.long))) in
        let q : n - (i + 1) ≡ n - i - 1 = omega arith in
        record {
          timing = rw (t, q) (timing-step number s from n (take i numbers) at (n - i) g.timing x Unit next (omega arith) one);
          long = length-set numbers i x ∙ g.long;
          within = omega arith;
        }

    pub listing-refused : (k : ℕ) → r ≡ N.Refused k → NextAt (times n number) s from (take n numbers) (length numbers ≡ 1024) (X.Refused k)
    listing-refused k e =
        let a : NumberAt s at (N.Refused k) = rw e at h in
        let one : NextAt number s at 0 Unit (X.Refused k) = record { reads = a.reads; past = tt } in
        timing-refused number s from n (take i numbers) at (n - i) g.timing 0 Unit k (take n numbers) (length numbers ≡ 1024) (omega arith) one

  pub listing-end : (numbers : List ℕ) (at i : ℕ) → Listing numbers at i → n ≤ i → NextAt (times n number) s from (take n numbers) (length numbers ≡ 1024) (X.At at)
  listing-end numbers at i g h =
      let e : i ≡ n = omega (arith, g.within) in
      rw e at (timing-end number s from n (take i numbers) at (n - i) (length numbers ≡ 1024) g.timing (omega arith) g.long)

-- ---- a list behind its count
module _ (s : List ℕ) (at : ℕ) (r : Number) (h : ReadAt (below 1025) s at r) (numbers : List ℕ) where
  pub no-count : (k : ℕ) → r ≡ N.Refused k → ListAt s at numbers (N.Refused k)
  unfolding listed
  no-count k e = let a : ReadAt (below 1025) s at (N.Refused k) = rw e at h in rw (← a.reads)

  module _ (n from : ℕ) (e : r ≡ N.Is n from) where
    counted : ReadAt (below 1025) s at (N.Is n from)
    counted = rw e at h

    pub few-numbers : n ≤ 1024
    few-numbers = omega (arith, under 1025 s at n from counted)

    module _ (m : ℕ) (same : m ≡ n) (q : Next) (g : NextAt (times m number) s from (take m numbers) (length numbers ≡ 1024) q) where
      pub no-list : (k : ℕ) → q ≡ X.Refused k → ListAt s at numbers (N.Refused k)
      unfolding listed
      no-list k z = let b : NextAt (times n number) s from (take n numbers) (length numbers ≡ 1024) (X.Refused k) = rw (same, z) at g in rw (← counted.reads) (sym b.reads)

      pub a-list : (next : ℕ) → q ≡ X.At next → ListAt s at numbers (N.Is n next)
      unfolding listed
      a-list next z =
          let b : NextAt (times n number) s from (take n numbers) (length numbers ≡ 1024) (X.At next) = rw (same, z) at g in
          (rw (← counted.reads) (sym b.reads), omega (arith, counted.onward.0, b.past.0), b.past.1 counted.onward.1, few-numbers, b.past.2)

-- ---- a patch
module _ (s : List ℕ) (at : ℕ) (free numbers : List ℕ) (r : Number) (h : ListAt s at free r) where
  pub no-free : (k : ℕ) → r ≡ N.Refused k → ListsAt s at free numbers (L.Refused k)
  unfolding patched
  no-free k e = let a : ListAt s at free (N.Refused k) = rw e at h in rw a

  module _ (n from : ℕ) (e : r ≡ N.Is n from) (q : Number) (g : ListAt s from numbers q) where
    first : ListAt s at free (N.Is n from)
    first = rw e at h

    pub no-numbers : (k : ℕ) → q ≡ N.Refused k → ListsAt s at free numbers (L.Refused k)
    unfolding patched
    no-numbers k z = let b : ListAt s from numbers (N.Refused k) = rw z at g in rw (first.0, b)

    pub a-patch : (m next : ℕ) → q ≡ N.Is m next → (n' m' : ℕ) → n' ≡ n → m' ≡ m → ListsAt s at free numbers (L.Are n' m' next)
    unfolding patched
    a-patch m next z n' m' en em =
        let b : ListAt s from numbers (N.Is m next) = rw z at g in
        rw (en, em) (rw (first.0, b.0) refl, omega (arith, first.1, b.1), b.2, first.3, b.3, first.4, b.4)

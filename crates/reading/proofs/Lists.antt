-- Things read one after the other: what was read so far stands in front of what is left to read.
use Prim.Native.Nat.{ℕ, zero, suc, ◌+◌, ◌-◌, ◌<◌, ◌≤◌}
use mathlib.Core.Path.{◌≡◌, refl, ap, ◌∙◌}
use mathlib.Core.Bool.{Bool, true, false}
use mathlib.Core.List.{List, [], ◌∷◌, ◌++◌, map, append_assoc, append-nil}
use native.Mathlib.Omega.{arith}
use lib.Dec.{eqb}
use lib.ListN.{length, drop}
use Rattle.entity.specs.Logic.{pick, or, has, indices}
use Rattle.number.specs.Read.{Read, got, refused, then}
use Rattle.number.specs.declared.Number as N
use Rattle.reading.specs.Reading.{below, times, distinct, fresh}
use Rattle.reading.specs.Answer.{ReadAt, NextAt}
use Rattle.reading.specs.declared.Next as X

-- what is read goes behind what was read
abbrev pub behind : {A : Type 0} → List A → Read (List A) → Read (List A)
behind before r = then r (λ xs q. got (before ++ xs) q)

pub behind-nothing : {A : Type 0} (r : Read (List A)) → behind [] r ≡ r
behind-nothing (got xs q) = refl
behind-nothing (refused k) = refl

pub behind-one : {A : Type 0} (before : List A) (x : A) (r : Read (List A)) → behind (before ++ (x ∷ [])) r ≡ behind before (then r (λ xs q. got (x ∷ xs) q))
behind-one before x (got xs q) = ap (λ l. got l q) (append_assoc before (x ∷ []) xs)
behind-one before x (refused k) = refl

-- the things read so far, one more
pub rows_more : {A : Type 0} (f g : ℕ → A) (i n : ℕ) → ((k : ℕ) → k < n → g (i + k) ≡ f (i + k)) → map g (indices i (suc n)) ≡ map f (indices i n) ++ (g (i + n) ∷ [])
unfolding indices
rows_more f g i zero h = let e : i + 0 ≡ i = omega arith in rw e
rows_more f g i (suc n) h =
    let a : i + 0 ≡ i = omega arith in
    let b : i + 1 + n ≡ i + suc n = omega arith in
    let here : g i ≡ f i = rw a at (h 0 (omega arith)) in
    let rest : map g (indices (i + 1) (suc n)) ≡ map f (indices (i + 1) n) ++ (g (i + suc n) ∷ []) = rw b at (rows_more f g (i + 1) n (λ k l. let e : i + 1 + k ≡ i + suc k = omega arith in rw e (h (suc k) (omega arith)))) in
    rw (here, ← rest)

pub rows_same : {A : Type 0} (f g : ℕ → A) (i n : ℕ) → ((k : ℕ) → k < n → g (i + k) ≡ f (i + k)) → map g (indices i n) ≡ map f (indices i n)
unfolding indices
rows_same f g i zero h = refl
rows_same f g i (suc n) h =
    let a : i + 0 ≡ i = omega arith in
    let here : g i ≡ f i = rw a at (h 0 (omega arith)) in
    rw (here, rows_same f g (i + 1) n (λ k l. let e : i + 1 + k ≡ i + suc k = omega arith in rw e (h (suc k) (omega arith))))

-- ---- n things, `left` of them from `at` on
module _ {A : Type 0} (one : List ℕ → Read A) (s : List ℕ) (from n : ℕ) where
  pub record Timing (before : List A) (at left : ℕ) : Type 0 where
    pub same : behind before (times left one (drop at s)) ≡ times n one (drop from s)
    pub ahead : from ≤ at
    pub within : from ≤ length s → at ≤ length s

  pub timing-start : Timing [] from n
  timing-start = record { same = behind-nothing (times n one (drop from s)); ahead = omega arith; within = λ l. l }

  module _ (before : List A) (at left : ℕ) (i : Timing before at left) (x : A) (kept : Type 0) where
    one_more : 0 < left → behind before (then (one (drop at s)) (λ x r. then (times (left - 1) one r) (λ xs q. got (x ∷ xs) q))) ≡ times n one (drop from s)
    unfolding times
    one_more h = let e : left ≡ suc (left - 1) = omega arith in rw e at i.same

    pub timing-step : (next : ℕ) → 0 < left → NextAt one s at x kept (X.TheVariants.At next) → Timing (before ++ (x ∷ [])) next (left - 1)
    timing-step next l h = record {
      same = behind-one before x (times (left - 1) one (drop next s)) ∙ rw (← h.reads) at (one_more l);
      ahead = omega (arith, i.ahead, h.past.0);
      within = λ w. h.past.1 (i.within w);
    }

    pub timing-refused : (k : ℕ) (y : List A) (also : Type 0) → 0 < left → NextAt one s at x kept (X.TheVariants.Refused k) → NextAt (times n one) s from y also (X.TheVariants.Refused k)
    timing-refused k y also l h = record { reads = rw (← h.reads) at (one_more l); past = tt }

  pub timing-end : (before : List A) (at left : ℕ) (also : Type 0) → Timing before at left → left ≤ 0 → also → NextAt (times n one) s from before also (X.TheVariants.At at)
  unfolding times
  timing-end before at left also i z a =
      let e : left ≡ 0 = omega arith in
      record { reads = rw (e, append-nil before) at i.same; past = (i.ahead, i.within, a) }

-- ---- n numbers below a limit, none twice
module _ (limit : ℕ) (s : List ℕ) (from n : ℕ) where
  pub record Listing (seen : ℕ → Bool) (before : List ℕ) (at left : ℕ) : Type 0 where
    pub back : List ℕ
    pub is : (x : ℕ) → seen x ≡ has x back
    pub same : behind before (distinct left limit back (drop at s)) ≡ distinct n limit [] (drop from s)
    pub ahead : from ≤ at
    pub within : from ≤ length s → at ≤ length s

  pub listing_start : (seen : ℕ → Bool) → ((x : ℕ) → seen x ≡ false) → Listing seen [] from n
  unfolding has
  listing_start seen h = record { back = []; is = h; same = behind-nothing (distinct n limit [] (drop from s)); ahead = omega arith; within = λ l. l }

  module _ (seen : ℕ → Bool) (before : List ℕ) (at left : ℕ) (i : Listing seen before at left) where
    next_one : (r : Read ℕ) → (seen : ℕ → Bool) (back : List ℕ) → ((x : ℕ) → seen x ≡ has x back) → (d : ℕ → List ℕ → Read (List ℕ)) → then r (λ x q. pick (has x back) (refused 3) (d x q)) ≡ then (then r (λ x q. pick (seen x) (refused 3) (got x q))) d
    next_one (refused k) seen back h d = refl
    next_one (got x q) seen back h d = rw (← h x) (go (seen x))
      where
        go : (b : Bool) → pick b (refused 3) (d x q) ≡ then (pick b (refused 3) (got x q)) d
        go true = refl
        go false = refl

    one-new : 0 < left → behind before (then (fresh limit seen (drop at s)) (λ x r. then (distinct (left - 1) limit (x ∷ i.back) r) (λ xs q. got (x ∷ xs) q))) ≡ distinct n limit [] (drop from s)
    unfolding distinct fresh
    one-new h =
        let e : left ≡ suc (left - 1) = omega arith in
        rw (← next_one (below limit (drop at s)) seen i.back i.is (λ x r. then (distinct (left - 1) limit (x ∷ i.back) r) (λ xs q. got (x ∷ xs) q))) (rw e at i.same)

    pub listing_step : (x next : ℕ) (seen' : ℕ → Bool) → ((y : ℕ) → seen' y ≡ pick (eqb y x) true (seen y)) → 0 < left → ReadAt (fresh limit seen) s at (N.TheVariants.Is x next) → Listing seen' (before ++ (x ∷ [])) next (left - 1)
    unfolding has
    listing_step x next seen' more l h = record {
      back = x ∷ i.back;
      is = λ y. more y ∙ rw (i.is y) (go (eqb y x) y);
      same = behind-one before x (distinct (left - 1) limit (x ∷ i.back) (drop next s)) ∙ rw (← h.reads) at (one-new l);
      ahead = omega (arith, i.ahead, h.onward.0);
      within = λ w. h.onward.1;
    }
      where
        go : (b : Bool) (y : ℕ) → pick b true (has y i.back) ≡ or b (has y i.back)
        go true y = refl
        go false y = refl

    pub listing-refused : (k : ℕ) (y : List ℕ) (also : Type 0) → 0 < left → ReadAt (fresh limit seen) s at (N.TheVariants.Refused k) → NextAt (distinct n limit []) s from y also (X.TheVariants.Refused k)
    listing-refused k y also l h = record { reads = rw (← h.reads) at (one-new l); past = tt }

    pub listing-end : (also : Type 0) → left ≤ 0 → also → NextAt (distinct n limit []) s from before also (X.TheVariants.At at)
    unfolding distinct
    listing-end also z a =
        let e : left ≡ 0 = omega arith in
        record { reads = rw (e, append-nil before) at i.same; past = (i.ahead, i.within, a) }

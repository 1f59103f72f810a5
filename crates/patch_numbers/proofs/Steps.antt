-- The steps of the second reading.
use Prim.Native.Nat.{ℕ, suc, ◌+◌, ◌-◌, ◌*◌, ◌<◌, ◌≤◌}
use mathlib.Core.Path.{◌≡◌, refl, sym, ap, ◌∙◌}
use mathlib.Core.List.{List, [], ◌∷◌, ◌++◌, append_assoc, append-nil}
use native.Mathlib.Omega.{arith}
use borrow.Author.Tests.{eq-eqb, ne_eqb, lt-ltb, le-ltb}
use lib.ListN.{length, drop, take, set, length-set}
use lib.Seq.{take-suc-set}
use Rattle.number.specs.Read.{Read, got, refused, then}
use Rattle.number.specs.Number.{number}
use Rattle.number.specs.Answer.{NumberAt}
use Rattle.number.specs.declared.Number.{Number}
use Rattle.number.specs.declared.Number.TheVariants as N
use Rattle.reading.specs.Answer.{next_of}
use Rattle.reading.specs.declared.Next.TheVariants as X
use Rattle.patch_numbers.specs.declared.Four.{Four}
use Rattle.patch_numbers.specs.Numbers.{passed, last, four, fours, counted, numbers_in}
use Rattle.patch_numbers.specs.Kept.{four_of, stored, KeptAt}

passed-suc : (n m : ℕ) (l : List ℕ) → n ≡ suc m → passed n l ≡ then (number l) (λ x r. passed m r)
unfolding passed
passed-suc n m l e = rw e

module _ (s : List ℕ) where
  -- ---- numbers passed over: of n from `at` on, `left` are left from q on
  module _ (at n q left : ℕ) (h : passed n (drop at s) ≡ passed left (drop q s)) where
    one_more : 0 < left → passed left (drop q s) ≡ then (number (drop q s)) (λ x r. passed (left - 1) r)
    one_more p = passed-suc left (left - 1) (drop q s) (omega arith)

    pub skip-refused : (k : ℕ) → 0 < left → NumberAt s q (N.Refused k) → refused k ≡ passed n (drop at s)
    skip-refused k p g = sym (h ∙ one_more p ∙ rw (← g.reads))

    pub skip_step : (x next : ℕ) → 0 < left → NumberAt s q (N.Is x next) → passed n (drop at s) ≡ passed (left - 1) (drop next s)
    skip_step x next p g = h ∙ one_more p ∙ rw (← g.reads)

    pub skip-end : left ≤ 0 → got 0 (drop q s) ≡ passed n (drop at s)
    unfolding passed
    skip-end p = let l : left ≡ 0 = omega arith in sym (h ∙ rw l)

  -- ---- the numbers of an entry
  module _ (at kind x y : ℕ) where
    pub last_none : 0 < kind → got (kind ∷ x ∷ y ∷ 0 ∷ []) (drop at s) ≡ last kind x y (drop at s)
    last_none h = rw (ne_eqb kind 0 (λ e. omega arith))

    pub last-refused : (k : ℕ) → kind ≤ 0 → NumberAt s at (N.Refused k) → refused k ≡ last kind x y (drop at s)
    last-refused k h g = rw (eq-eqb kind 0 (omega arith), ← g.reads)

    pub last-read : (z next : ℕ) → kind ≤ 0 → NumberAt s at (N.Is z next) → got (kind ∷ x ∷ y ∷ z ∷ []) (drop next s) ≡ last kind x y (drop at s)
    last-read z next h g = rw (eq-eqb kind 0 (omega arith), ← g.reads)

  module _ (at : ℕ) where
    pub no_kind : (k : ℕ) → NumberAt s at (N.Refused k) → refused k ≡ four (drop at s)
    unfolding four
    no_kind k a = rw (← a.reads)

    pub no-first : (kind p k : ℕ) → NumberAt s at (N.Is kind p) → NumberAt s p (N.Refused k) → refused k ≡ four (drop at s)
    unfolding four
    no-first kind p k a b = rw (← a.reads, ← b.reads)

    pub no_second : (kind p x q k : ℕ) → NumberAt s at (N.Is kind p) → NumberAt s p (N.Is x q) → NumberAt s q (N.Refused k) → refused k ≡ four (drop at s)
    unfolding four
    no_second kind p x q k a b c = rw (← a.reads, ← b.reads, ← c.reads)

    pub four-read : (kind p x q y o : ℕ) (r : Four) → NumberAt s at (N.Is kind p) → NumberAt s p (N.Is x q) → NumberAt s q (N.Is y o)
        → four_of s r ≡ last kind x y (drop o s) → four_of s r ≡ four (drop at s)
    unfolding four
    four-read kind p x q y o r a b c d = d ∙ rw (← a.reads, ← b.reads, ← c.reads)

-- ---- four numbers more in the table
pub four-more : (l : List ℕ) (k kind x y z : ℕ) → k + 4 ≤ length l → take (k + 4) (stored l k kind x y z) ≡ take k l ++ (kind ∷ x ∷ y ∷ z ∷ [])
four-more l k kind x y z h =
    let l₁ : List ℕ = set l k kind in
    let l₂ : List ℕ = set l₁ (k + 1) x in
    let l₃ : List ℕ = set l₂ (k + 2) y in
    let n₁ : length l₁ ≡ length l = length-set l k kind in
    let n₂ : length l₂ ≡ length l = length-set l₁ (k + 1) x ∙ n₁ in
    let n₃ : length l₃ ≡ length l = length-set l₂ (k + 2) y ∙ n₂ in
    let e₄ : k + 4 ≡ suc (k + 3) = omega arith in
    let e₃ : k + 3 ≡ suc (k + 2) = omega arith in
    let e₂ : k + 2 ≡ suc (k + 1) = omega arith in
    let e₁ : k + 1 ≡ suc k = omega arith in
    let a₄ : take (k + 4) (set l₃ (k + 3) z) ≡ take (k + 3) l₃ ++ (z ∷ []) = ap (λ (n : ℕ). take n (set l₃ (k + 3) z)) e₄ ∙ take-suc-set l₃ (k + 3) z (omega arith) in
    let a₃ : take (k + 3) l₃ ≡ take (k + 2) l₂ ++ (y ∷ []) = ap (λ (n : ℕ). take n l₃) e₃ ∙ take-suc-set l₂ (k + 2) y (omega arith) in
    let a₂ : take (k + 2) l₂ ≡ take (k + 1) l₁ ++ (x ∷ []) = ap (λ (n : ℕ). take n l₂) e₂ ∙ take-suc-set l₁ (k + 1) x (omega arith) in
    let a₁ : take (k + 1) l₁ ≡ take k l ++ (kind ∷ []) = ap (λ (n : ℕ). take n l₁) e₁ ∙ take-suc-set l k kind (omega arith) in
    a₄ ∙ rw (a₃, a₂, a₁) (simp append_assoc)

-- what is read behind numbers that were
abbrev behind : List ℕ → Read (List ℕ) → Read (List ℕ)
behind ys d = then d (λ xs r. got (ys ++ xs) r)

behind_more : (ys xs : List ℕ) (d : Read (List ℕ)) → behind ys (then d (λ zs q. got (xs ++ zs) q)) ≡ behind (ys ++ xs) d
behind_more ys xs (got zs q) = ap (λ (l : List ℕ). got l q) (sym (append_assoc ys xs zs))
behind_more ys xs (refused k) = refl

behind-none : (d : Read (List ℕ)) → behind [] d ≡ d
behind-none (got xs r) = refl
behind-none (refused k) = refl

-- of n entries from `at` on, i stand in the table, and the others are read from q on
pub record Keeping (s : List ℕ) (at n : ℕ) (numbers : List ℕ) (q i : ℕ) : Type 0 where
  pub is : fours n (drop at s) ≡ behind (take (i * 4) numbers) (fours (n - i) (drop q s))
  pub within : i ≤ n

module _ (s : List ℕ) (at n : ℕ) where
  pub keeping_start : (numbers : List ℕ) → Keeping s at n numbers at 0
  keeping_start numbers = let z : n - 0 ≡ n = omega arith in record { is = rw z (sym (behind-none (fours n (drop at s)))); within = omega arith }

  module _ (numbers : List ℕ) (q i : ℕ) (g : Keeping s at n numbers q i) where
    one-four : i < n → fours (n - i) (drop q s) ≡ then (four (drop q s)) (λ xs r. then (fours (n - (i + 1)) r) (λ ys o. got (xs ++ ys) o))
    unfolding fours
    one-four h = let l : n - i ≡ suc (n - (i + 1)) = omega arith in rw l

    pub keeping-refused : (k : ℕ) (numbers' : List ℕ) → i < n → refused k ≡ four (drop q s) → next_of s (take (n * 4) numbers') (X.Refused k) ≡ fours n (drop at s)
    keeping-refused k numbers' h e =
        let a : fours (n - i) (drop q s) ≡ refused k = one-four h ∙ rw (← e) in
        sym (g.is ∙ ap (behind (take (i * 4) numbers)) a)

    pub keeping_step : (kind x y z next : ℕ) (numbers' : List ℕ) → i < n → n ≤ 128 → got (kind ∷ x ∷ y ∷ z ∷ []) (drop next s) ≡ four (drop q s)
        → length numbers ≡ 512 → numbers' ≡ stored numbers (i * 4) kind x y z → Keeping s at n numbers' next (i + 1)
    keeping_step kind x y z next numbers' h few e len st =
        let m : (i + 1) * 4 ≡ i * 4 + 4 = omega arith in
        let t : take ((i + 1) * 4) numbers' ≡ take (i * 4) numbers ++ (kind ∷ x ∷ y ∷ z ∷ []) = rw (st, m) (four-more numbers (i * 4) kind x y z (omega arith)) in
        let a : fours (n - i) (drop q s) ≡ then (fours (n - (i + 1)) (drop next s)) (λ ys o. got ((kind ∷ x ∷ y ∷ z ∷ []) ++ ys) o) = one-four h ∙ rw (← e) in
        record {
          is =
              g.is ∙ ap (behind (take (i * 4) numbers)) a
              ∙ behind_more (take (i * 4) numbers) (kind ∷ x ∷ y ∷ z ∷ []) (fours (n - (i + 1)) (drop next s))
              ∙ ap (λ (ys : List ℕ). behind ys (fours (n - (i + 1)) (drop next s))) (sym t);
          within = omega arith;
        }

    pub keeping-end : n ≤ i → got (take (n * 4) numbers) (drop q s) ≡ fours n (drop at s)
    unfolding fours
    keeping-end h =
        let w = g.within in
        let e : i ≡ n = omega arith in
        let z : n - i ≡ 0 = omega arith in
        sym (g.is ∙ rw (z, e) (ap (λ (l : List ℕ). got l (drop q s)) (append-nil (take (n * 4) numbers))))

-- ---- the count in front, and the whole
module _ (s : List ℕ) (at : ℕ) (numbers : List ℕ) where
  pub count-refused : (k : ℕ) → NumberAt s at (N.Refused k) → KeptAt counted s at numbers (N.Refused k)
  unfolding counted
  count-refused k a = record { reads = rw (← a.reads); few = tt }

  pub too_many : (n next : ℕ) → NumberAt s at (N.Is n next) → 128 < n → KeptAt counted s at numbers (N.Refused 15)
  unfolding counted
  too_many n next a h = record { reads = rw (← a.reads, lt-ltb 128 n h); few = tt }

  pub fours-refused : (n next k : ℕ) → NumberAt s at (N.Is n next) → n ≤ 128 → refused k ≡ fours n (drop next s) → KeptAt counted s at numbers (N.Refused k)
  unfolding counted
  fours-refused n next k a h e = record { reads = e ∙ rw (← a.reads, le-ltb 128 n h); few = tt }

  pub fours-kept : (n next q : ℕ) → NumberAt s at (N.Is n next) → n ≤ 128 → got (take (n * 4) numbers) (drop q s) ≡ fours n (drop next s) → KeptAt counted s at numbers (N.Is n q)
  unfolding counted
  fours-kept n next q a h e = record { reads = e ∙ rw (← a.reads, le-ltb 128 n h); few = h }

  pub free-refused : (k : ℕ) → NumberAt s at (N.Refused k) → KeptAt numbers_in s at numbers (N.Refused k)
  unfolding numbers_in
  free-refused k a = record { reads = rw (← a.reads); few = tt }

  pub skipped-refused : (n next k : ℕ) → NumberAt s at (N.Is n next) → refused k ≡ passed n (drop next s) → KeptAt numbers_in s at numbers (N.Refused k)
  unfolding numbers_in
  skipped-refused n next k a e = record { reads = rw (← a.reads, ← e); few = tt }

  pub skipped : (n next q : ℕ) (r : Number) → NumberAt s at (N.Is n next) → got 0 (drop q s) ≡ passed n (drop next s) → KeptAt counted s q numbers r → KeptAt numbers_in s at numbers r
  unfolding numbers_in
  skipped n next q r a e k = record { reads = k.reads ∙ rw (← a.reads, ← e); few = k.few }

-- One part after another.
use Prim.Native.Nat.{ℕ, ◌<◌, ◌≤◌}
use mathlib.Core.Path.{◌≡◌, refl, sym, ◌∙◌}
use mathlib.Core.Bool.{Bool, true, false}
use mathlib.Core.List.{List}
use native.Mathlib.Omega.{arith}
use lib.Dec.{ltb, leb}
use lib.ListN.{drop}
use borrow.Author.Tests.{le-leb, lt-leb, leb-true, ltb-true}
use Rattle.entity.specs.Logic.{pick, and}
use Rattle.entity.proofs.Laws.{and-true}
use Rattle.number.specs.Read.{Read, got, refused, then}
use Rattle.number.specs.Number.{number}
use Rattle.number.specs.Answer.{NumberAt}
use Rattle.number.specs.declared.Number as N
use Rattle.reading.specs.Reading.{tested, below, between}
use Rattle.reading.specs.Answer.{ReadAt, NextAt, Past}
use Rattle.reading.specs.declared.Next as X
use Rattle.reading.specs.declared.Next.{Next}

-- ---- a range
pub between-true : (low high n : ℕ) → low ≤ n → n ≤ high → and (leb low n) (leb n high) ≡ true
between-true low high n a b = rw (le-leb low n a, le-leb n high b)

pub between-low : (low high n : ℕ) → n < low → and (leb low n) (leb n high) ≡ false
between-low low high n a = rw (lt-leb low n a)

pub between-high : (low high n : ℕ) → high < n → and (leb low n) (leb n high) ≡ false
between-high low high n a = go (leb low n)
  where
    go : (b : Bool) → and b (leb n high) ≡ false
    go true = lt-leb n high a
    go false = refl

-- ---- a number held against a test
module _ (ok : ℕ → Bool) (s : List ℕ) (at : ℕ) where
  pub no_number : (k : ℕ) → NumberAt s at (N.TheVariants.Refused k) → ReadAt (tested ok) s at (N.TheVariants.Refused k)
  unfolding tested
  no_number k h = record { reads = rw (← h.reads); onward = tt }

  module _ (n next : ℕ) (h : NumberAt s at (N.TheVariants.Is n next)) where
    pub passes : ok n ≡ true → ReadAt (tested ok) s at (N.TheVariants.Is n next)
    unfolding tested
    passes e = record { reads = rw (← h.reads, e); onward = h.onward }

    pub fails : ok n ≡ false → ReadAt (tested ok) s at (N.TheVariants.Refused 2)
    unfolding tested
    fails e = record { reads = rw (← h.reads, e); onward = tt }

-- a number as it is read
pub any-number : (s : List ℕ) (at : ℕ) (r : N.Number) → NumberAt s at r → ReadAt number s at r
any-number s at r h = record { reads = h.reads; onward = h.onward }

-- a number that was read passed its test
pub passed : (ok : ℕ → Bool) (s : List ℕ) (at n next : ℕ) → ReadAt (tested ok) s at (N.TheVariants.Is n next) → ok n ≡ true
unfolding tested
passed ok s at n next h = go (number (drop at s)) h.reads
  where
    test : (b : Bool) (m : ℕ) (r : List ℕ) → ok m ≡ b → got n (drop next s) ≡ pick b (got m r) (refused 2) → ok n ≡ true
    test true m r e q = let z : n ≡ m = cc in rw (z, e)
    test false m r e q = let z : ◌≡◌ {A = ℕ} 0 1 = cc in absurd (omega arith)

    go : (x : Read ℕ) → got n (drop next s) ≡ then x (λ m r. pick (ok m) (got m r) (refused 2)) → ok n ≡ true
    go (got m r) q = test (ok m) m r refl q
    go (refused k) q = let z : ◌≡◌ {A = ℕ} 0 1 = cc in absurd (omega arith)

pub under : (m : ℕ) (s : List ℕ) (at n next : ℕ) → ReadAt (below m) s at (N.TheVariants.Is n next) → n < m
under m s at n next h = ltb-true n m (passed (λ x. ltb x m) s at n next h)

pub in-range : (low high : ℕ) (s : List ℕ) (at n next : ℕ) → ReadAt (between low high) s at (N.TheVariants.Is n next) → (low ≤ n) × (n ≤ high)
in-range low high s at n next h = let w = and-true (leb low n) (leb n high) (passed (λ x. and (leb low x) (leb x high)) s at n next h) in (leb-true low n w.0, leb-true n high w.1)

-- two tests that agree
pub tested-same : (ok also : ℕ → Bool) (l : List ℕ) → ((n : ℕ) → ok n ≡ also n) → tested ok l ≡ tested also l
unfolding tested
tested-same ok also l h = go (number l)
  where
    go : (x : Read ℕ) → then x (λ n r. pick (ok n) (got n r) (refused 2)) ≡ then x (λ n r. pick (also n) (got n r) (refused 2))
    go (got n r) = rw (h n)
    go (refused k) = refl

-- one test after the other
pub tested-both : (ok also : ℕ → Bool) (l : List ℕ) → tested (λ n. and (ok n) (also n)) l ≡ then (tested ok l) (λ n r. pick (also n) (got n r) (refused 2))
unfolding tested
tested-both ok also l = go (number l)
  where
    both : (a b : Bool) (n : ℕ) (r : List ℕ) → also n ≡ b → pick (and a b) (got n r) (refused 2) ≡ then (pick a (got n r) (refused 2)) (λ n r. pick (also n) (got n r) (refused 2))
    both true b n r e = rw e
    both false b n r e = refl

    go : (x : Read ℕ) → then x (λ n r. pick (and (ok n) (also n)) (got n r) (refused 2)) ≡ then (then x (λ n r. pick (ok n) (got n r) (refused 2))) (λ n r. pick (also n) (got n r) (refused 2))
    go (got n r) = both (ok n) (also n) n r refl
    go (refused k) = refl

-- ---- a number, then the rest
module _ {A : Type 0} (d : List ℕ → Read ℕ) (f : ℕ → List ℕ → Read A) (s : List ℕ) (at : ℕ) (x : A) (kept : Type 0) where
  pub number-refused : (k : ℕ) → ReadAt d s at (N.TheVariants.Refused k) → NextAt (λ l. then (d l) f) s at x kept (X.TheVariants.Refused k)
  number-refused k h = record { reads = rw (← h.reads); past = tt }

  pub number-then : (n next : ℕ) (r : Next) → ReadAt d s at (N.TheVariants.Is n next) → NextAt (f n) s next x kept r → NextAt (λ l. then (d l) f) s at x kept r
  number-then n next r h g = record { reads = rw (← h.reads) g.reads; past = on r g.past }
    where
      on : (r : Next) → Past s next kept r → Past s at kept r
      on (X.TheVariants.At q) p = (omega (arith, h.onward.0, p.0), (λ _. p.1 h.onward.1), p.2)
      on (X.TheVariants.Refused k) p = tt

-- ---- a part, then the rest
module _ {A B : Type 0} (d : List ℕ → Read A) (f : A → List ℕ → Read B) (s : List ℕ) (at : ℕ) (a : A) (some : Type 0) (x : B) (kept : Type 0) where
  pub part-refused : (k : ℕ) → NextAt d s at a some (X.TheVariants.Refused k) → NextAt (λ l. then (d l) f) s at x kept (X.TheVariants.Refused k)
  part-refused k h = record { reads = rw (← h.reads); past = tt }

  pub part_then : (next : ℕ) (r : Next) → NextAt d s at a some (X.TheVariants.At next) → (some → NextAt (f a) s next x kept r) → NextAt (λ l. then (d l) f) s at x kept r
  part_then next r h g = record { reads = rw (← h.reads) (g h.past.2).reads; past = on r (g h.past.2).past }
    where
      on : (r : Next) → Past s next kept r → Past s at kept r
      on (X.TheVariants.At q) p = (omega (arith, h.past.0, p.0), (λ l. p.1 (h.past.1 l)), p.2)
      on (X.TheVariants.Refused k) p = tt

-- nothing more is read
pub done : {A : Type 0} (f : List ℕ → Read A) (s : List ℕ) (at : ℕ) (x : A) (kept : Type 0) → ((l : List ℕ) → f l ≡ got x l) → kept → NextAt f s at x kept (X.TheVariants.At at)
done f s at x kept e k = record { reads = sym (e (drop at s)); past = (omega arith, (λ l. l), k) }

-- the same part, said in another way
pub restated : {A : Type 0} (d e : List ℕ → Read A) (s : List ℕ) (at : ℕ) (x y : A) (kept also : Type 0) (r : Next) → ((l : List ℕ) → d l ≡ e l) → (kept → x ≡ y) → (kept → also) → NextAt d s at x kept r → NextAt e s at y also r
restated d e s at x y kept also (X.TheVariants.At next) same eq on h = record { reads = rw (← eq h.past.2) (h.reads ∙ same (drop at s)); past = (h.past.0, h.past.1, on h.past.2) }
restated d e s at x y kept also (X.TheVariants.Refused k) same eq on h = record { reads = h.reads ∙ same (drop at s); past = tt }

-- a part, and what is made of it
pub made : {A B : Type 0} (d : List ℕ → Read A) (g : A → B) (s : List ℕ) (at : ℕ) (a : A) (y : B) (kept also : Type 0) (r : Next) → (kept → g a ≡ y) → (kept → also) → NextAt d s at a kept r → NextAt (λ l. then (d l) (λ x q. got (g x) q)) s at y also r
made d g s at a y kept also (X.TheVariants.At next) eq on h = record { reads = rw (← h.reads, eq h.past.2); past = (h.past.0, h.past.1, on h.past.2) }
made d g s at a y kept also (X.TheVariants.Refused k) eq on h = record { reads = rw (← h.reads); past = tt }

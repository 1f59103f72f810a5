-- Numbers that stand at the front of bytes: in their only form, so that writing them gives those bytes.
use Prim.Native.Nat.{ℕ, zero, suc}
use mathlib.Core.Path.{◌≡◌, refl, sym, ap, subst, ◌∙◌}
use mathlib.Core.Bool.{Bool, true, false}
use mathlib.Core.List.{List, [], ◌∷◌, ◌++◌, append_assoc}
use native.Mathlib.Omega.{arith}
use lib.Dec.{ltb}
use lib.ListN.{length}
use borrow.Author.Tests.{lt-ltb}
use Rattle.entity.specs.Logic.{pick, and, all_in, has}
use Rattle.number.specs.Read.{Read, got, refused, then}
use Rattle.number.specs.Number.{number, encoded, Bytes}
use Rattle.number.proofs.Laws.{only-form}
use Rattle.reading.specs.Reading.{tested, below, times, distinct}
use Rattle.job_function.proofs.Accepted.{then-got}
use Rattle.job_numbers.specs.Numbers.{each_of, bytes_of}
use Rattle.job_numbers.specs.Claim.{Numbers}

-- l is the bytes of ns, then r
pub record Stands (ns l r : List ℕ) : Type 0 where
  pub is : l ≡ bytes_of ns ++ r
  pub numbers : Numbers ns
  pub rest : Bytes r

bytes-append : (ns ms : List ℕ) → bytes_of (ns ++ ms) ≡ bytes_of ns ++ bytes_of ms
unfolding bytes_of each_of
bytes-append [] ms = refl
bytes-append (n ∷ ns) ms = rw (append_assoc (encoded n) (bytes_of ns) (bytes_of ms)) (ap (λ (l : List ℕ). encoded n ++ l) (bytes-append ns ms))

numbers-append : (ns ms : List ℕ) → Numbers ns → Numbers ms → Numbers (ns ++ ms)
unfolding all_in
numbers-append [] ms h k = k
numbers-append (n ∷ ns) ms h k = go (ltb n 4294967296) h (numbers-append ns ms)
  where
    go : (b : Bool) → and b (all_in (λ n. ltb n 4294967296) ns) ≡ true → (Numbers ns → Numbers ms → Numbers (ns ++ ms))
        → and b (all_in (λ n. ltb n 4294967296) (ns ++ ms)) ≡ true
    go true h on = on h k
    go false h on = h

bytes_after : (l r : List ℕ) → Bytes (l ++ r) → Bytes r
bytes_after [] r h = h
bytes_after (b ∷ l) r h = bytes_after l r (λ i. h (suc i))

-- one after the other
pub join : {ns ms l r q : List ℕ} → Stands ns l r → Stands ms r q → Stands (ns ++ ms) l q
join {ns} {ms} {l} {r} {q} a b = record {
  is = a.is ∙ ap (λ (x : List ℕ). bytes_of ns ++ x) b.is ∙ sym (rw (bytes-append ns ms, append_assoc (bytes_of ns) (bytes_of ms) q));
  numbers = numbers-append ns ms a.numbers b.numbers;
  rest = b.rest;
}

pub nothing : (l : List ℕ) → Bytes l → Stands [] l l
unfolding bytes_of each_of all_in
nothing l h = record { is = refl; numbers = refl; rest = h }

-- ---- a number
pub number-stands : (l : List ℕ) (n : ℕ) (r : List ℕ) → Bytes l → number l ≡ got n r → Stands (n ∷ []) l r
unfolding bytes_of each_of all_in
number-stands l n r h e =
    let w = only-form l n r h e in
    record { is = go w.1; numbers = rw (lt-ltb n 4294967296 w.0); rest = bytes_after (encoded n) r (subst Bytes w.1 h) }
  where
    go : l ≡ encoded n ++ r → l ≡ (encoded n ++ []) ++ r
    go e = rw (append_assoc (encoded n) [] r) e

-- of what was read, what holds of all that it was made of
pub made : {A : Type 0} (P : A → List ℕ → Type 0) {x y : A} {l r : List ℕ} → got x l ≡ got y r → P x l → P y r
made {A = A} P {x} {y} {l} {r} e p =
    let z : x ≡ y = cc in
    let q : l ≡ r = cc in
    subst (λ (a : A). P a r) z (subst (λ (a : List ℕ). P x a) q p)

-- where a test holds
pub where-read : {A : Type 0} (b : Bool) (k : ℕ) (d : Read A) (y : A) (q : List ℕ) → pick b d (refused k) ≡ got y q → d ≡ got y q
where-read true k d y q e = e
where-read false k d y q e = absurd (let z : ◌≡◌ {A = ℕ} 0 1 = cc in omega arith)

-- where it does not
pub unless-read : {A : Type 0} (b : Bool) (k : ℕ) (d : Read A) (y : A) (q : List ℕ) → pick b (refused k) d ≡ got y q → d ≡ got y q
unless-read true k d y q e = absurd (let z : ◌≡◌ {A = ℕ} 0 1 = cc in omega arith)
unless-read false k d y q e = e

pub tested-stands : (ok : ℕ → Bool) (l : List ℕ) (n : ℕ) (r : List ℕ) → Bytes l → tested ok l ≡ got n r → Stands (n ∷ []) l r
unfolding tested
tested-stands ok l n r h e =
    let w = then-got (number l) _ n r e in
    made (λ n r. Stands (n ∷ []) l r) (where-read (ok w.0) 2 _ n r w.3) (number-stands l w.0 w.1 h w.2)

-- ---- lists
-- n things, each with its numbers
module _ {A : Type 0} (one : List ℕ → Read A) (numbers : A → List ℕ)
    (on : (l : List ℕ) (x : A) (r : List ℕ) → Bytes l → one l ≡ got x r → Stands (numbers x) l r) where
  pub times-stands : (n : ℕ) (l : List ℕ) (xs : List A) (r : List ℕ) → Bytes l → times n one l ≡ got xs r
      → (length xs ≡ n) × Stands (each_of numbers xs) l r
  unfolding times each_of
  times-stands zero l xs r h e =
      made (λ xs r. (length xs ≡ 0) × Stands (each_of numbers xs) l r) e (refl, nothing l h)
  times-stands (suc n) l xs r h e =
      let w = then-got (one l) _ xs r e in
      let a = on l w.0 w.1 h w.2 in
      let u = then-got (times n one w.1) _ xs r w.3 in
      let b = times-stands n w.1 u.0 u.1 a.rest u.2 in
      made (λ xs r. (length xs ≡ suc n) × Stands (each_of numbers xs) l r) u.3 (ap suc b.0, join a b.1)

-- a list of numbers, none twice
pub distinct-stands : (n limit : ℕ) (before l xs r : List ℕ) → Bytes l → distinct n limit before l ≡ got xs r → (length xs ≡ n) × Stands xs l r
unfolding distinct
distinct-stands zero limit before l xs r h e =
    made (λ xs r. (length xs ≡ 0) × Stands xs l r) e (refl, nothing l h)
distinct-stands (suc n) limit before l xs r h e =
    let w = then-got (below limit l) _ xs r e in
    let a = tested-stands (λ x. ltb x limit) l w.0 w.1 h w.2 in
    let u = then-got (distinct n limit (w.0 ∷ before) w.1) _ xs r (unless-read (has w.0 before) 3 _ xs r w.3) in
    let b = distinct-stands n limit (w.0 ∷ before) w.1 u.0 u.1 a.rest u.2 in
    made (λ xs r. (length xs ≡ suc n) × Stands xs l r) u.3 (ap suc b.0, join a b.1)

-- ---- a part, then the rest
pub after : {A B C : Type 0} {y : B} {r : List ℕ} (d : Read A) (next : A → List ℕ → Read B) → then d next ≡ got y r
    → ((x : A) (q : List ℕ) → d ≡ got x q → next x q ≡ got y r → C) → C
after {y = y} {r = r} d next e on = let w = then-got d next y r e in on w.0 w.1 w.2 w.3

pub number-then : {B C : Type 0} {y : B} {r : List ℕ} (l : List ℕ) (next : ℕ → List ℕ → Read B) → Bytes l → then (number l) next ≡ got y r
    → ((n : ℕ) (q : List ℕ) → Stands (n ∷ []) l q → next n q ≡ got y r → C) → C
number-then l next h e on = after (number l) next e (λ n q is more. on n q (number-stands l n q h is) more)

pub tested-then : {B C : Type 0} {y : B} {r : List ℕ} (ok : ℕ → Bool) (l : List ℕ) (next : ℕ → List ℕ → Read B) → Bytes l
    → then (tested ok l) next ≡ got y r → ((n : ℕ) (q : List ℕ) → Stands (n ∷ []) l q → next n q ≡ got y r → C) → C
tested-then ok l next h e on = after (tested ok l) next e (λ n q is more. on n q (tested-stands ok l n q h is) more)

pub distinct-then : {B C : Type 0} {y : B} {r : List ℕ} (n limit : ℕ) (l : List ℕ) (next : List ℕ → List ℕ → Read B) → Bytes l
    → then (distinct n limit [] l) next ≡ got y r → ((xs q : List ℕ) → length xs ≡ n → Stands xs l q → next xs q ≡ got y r → C) → C
distinct-then n limit l next h e on =
    after (distinct n limit [] l) next e
    (λ xs q is more. let w = distinct-stands n limit [] l xs q h is in on xs q w.0 w.1 more)

module _ {A : Type 0} (one : List ℕ → Read A) (numbers : A → List ℕ)
    (each : (l : List ℕ) (x : A) (r : List ℕ) → Bytes l → one l ≡ got x r → Stands (numbers x) l r) where
  pub times-then : {B C : Type 0} {y : B} {r : List ℕ} (n : ℕ) (l : List ℕ) (next : List A → List ℕ → Read B) → Bytes l
      → then (times n one l) next ≡ got y r
      → ((xs : List A) (q : List ℕ) → length xs ≡ n → Stands (each_of numbers xs) l q → next xs q ≡ got y r → C) → C
  times-then n l next h e on =
      after (times n one l) next e
      (λ xs q is more. let w = times-stands one numbers each n l xs q h is in on xs q w.0 w.1 more)

-- A set of numbers below a bound has at most as many as the bound; and what a table of flags holds.
use Prim.Native.Nat.{ℕ, zero, suc, ◌+◌, ◌<◌, ◌≤◌}
use mathlib.Core.Path.{◌≡◌, refl}
use mathlib.Core.Bool.{Bool, true, false}
use mathlib.Core.List.{List}
use native.Mathlib.Omega.{arith}
use lib.Dec.{eqb}
use lib.ListN.{length, set, replicate}
use lib.Seq.{get_or-set_same, get_or-set_other}
use borrow.Author.Tests.{ne_eqb, eqb-true, eqb-false}
use Rattle.entity.specs.Logic.{pick}
use Rattle.job_target.specs.Steps.{seen_in}

-- how many numbers below n are in the set
unfoldable pub count : (ℕ → Bool) → ℕ → ℕ
count f zero = 0
count f (suc n) = pick (f n) 1 0 + count f n

flag-most : (b : Bool) → pick b 1 0 ≤ 1
flag-most true = omega arith
flag-most false = omega arith

pub count_most : (f : ℕ → Bool) (n : ℕ) → count f n ≤ n
unfolding count
count_most f zero = omega arith
count_most f (suc n) = omega (arith, count_most f n, flag-most (f n))

pub count-empty : (f : ℕ → Bool) (n : ℕ) → ((x : ℕ) → f x ≡ false) → count f n ≡ 0
unfolding count
count-empty f zero h = refl
count-empty f (suc n) h = rw (h n, count-empty f n h)

-- with room for one that is not in it
pub count_room : (f : ℕ → Bool) (n u : ℕ) → u < n → f u ≡ false → count f n < n
unfolding count
count_room f zero u l h = absurd (omega arith)
count_room f (suc n) u l h = go (eqb u n) refl (λ l. count_room f n u l h)
  where
    go : (b : Bool) → eqb u n ≡ b → (u < n → count f n < n) → pick (f n) 1 0 + count f n < suc n
    go true e on = let z : u ≡ n = eqb-true u n e in rw (← z, h) (let m = count_most f u in omega arith)
    go false e on = let z : u ≡ n → ⊥ = eqb-false u n e in omega (arith, on (omega (arith, z)), flag-most (f n))

-- one above the bound does not count, and one below it does
count-above : (f g : ℕ → Bool) (n u : ℕ) → ((x : ℕ) → g x ≡ pick (eqb x u) true (f x)) → n ≤ u → count g n ≡ count f n
unfolding count
count-above f g zero u more h = refl
count-above f g (suc n) u more h = rw (more n, ne_eqb n u (λ e. omega arith), count-above f g n u more (omega arith))

pub count-more : (f g : ℕ → Bool) (n u : ℕ) → ((x : ℕ) → g x ≡ pick (eqb x u) true (f x)) → f u ≡ false → u < n → count g n ≡ count f n + 1
unfolding count
count-more f g zero u more h l = absurd (omega arith)
count-more f g (suc n) u more h l = go (eqb n u) refl (count-more f g n u more h)
  where
    go : (b : Bool) → eqb n u ≡ b → (u < n → count g n ≡ count f n + 1) → pick (g n) 1 0 + count g n ≡ pick (f n) 1 0 + count f n + 1
    go true e on =
        let z : n ≡ u = eqb-true n u e in
        let k : f n ≡ false = rw z h in
        rw (more n, e, k, count-above f g n u more (omega arith)) (omega arith)
    go false e on =
        let z : n ≡ u → ⊥ = eqb-false n u e in
        rw (more n, e, on (omega (arith, z))) (omega arith)

-- ---- the table: no flag, and one stored
pub no_flag : (n x : ℕ) → seen_in (replicate n false) x ≡ false
unfolding seen_in
no_flag zero x = refl
no_flag (suc n) zero = refl
no_flag (suc n) (suc x) = no_flag n x

pub flag-stored : (l : List Bool) (u : ℕ) → u < length l → (x : ℕ) → seen_in (set l u true) x ≡ pick (eqb x u) true (seen_in l x)
unfolding seen_in
flag-stored l u h x = go (eqb x u) refl
  where
    go : (b : Bool) → eqb x u ≡ b → seen_in (set l u true) x ≡ pick b true (seen_in l x)
    go true e = rw (eqb-true x u e) (get_or-set_same l u true false h)
    go false e = get_or-set_other l u x true false (eqb-false x u e)

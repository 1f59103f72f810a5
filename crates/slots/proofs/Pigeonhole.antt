-- Numbers of a range with nothing twice: there are no more of them than the range has.
use Prim.Native.Nat.{ℕ, zero, suc, ◌+◌, ◌<◌, ◌≤◌}
use mathlib.Core.Path.{◌≡◌, refl, sym, ◌∙◌}
use mathlib.Core.Bool.{Bool, true, false, true≢false}
use mathlib.Core.List.{List, [], ◌∷◌}
use native.Mathlib.Omega.{arith}
use lib.ListN.{length}
use lib.Dec.{eqb}
use borrow.Author.Tests.{eq-eqb, ne_eqb, eqb-true, eqb-false}
use Rattle.entity.specs.Logic.{pick, and, no, has, twice}
use Rattle.entity.proofs.Laws.{or-false}

-- how many of the n numbers from a on pass the test
size : (ℕ → Bool) → ℕ → ℕ → ℕ
size p a zero = 0
size p a (suc n) = pick (p (a + n)) 1 0 + size p a n

-- x passes no more
less : (ℕ → Bool) → ℕ → ℕ → Bool
less p x y = and (no (eqb y x)) (p y)

size-most : (p : ℕ → Bool) (a n : ℕ) → size p a n ≤ n
unfolding size
size-most p a zero = omega arith
size-most p a (suc n) = go (p (a + n)) (size-most p a n)
  where
    go : (b : Bool) → size p a n ≤ n → pick b 1 0 + size p a n ≤ suc n
    go true rest = omega arith
    go false rest = omega arith

size-out : (p : ℕ → Bool) (a n x : ℕ) → a + n ≤ x → size (less p x) a n ≡ size p a n
unfolding size less
size-out p a zero x h = refl
size-out p a (suc n) x h = rw (ne_eqb (a + n) x (λ e. omega arith), size-out p a n x (omega arith))

size_in : (p : ℕ → Bool) (a n x : ℕ) → a ≤ x → x < a + n → p x ≡ true → size (less p x) a n + 1 ≤ size p a n
unfolding size less
size_in p a zero x l h e = absurd (omega arith)
size_in p a (suc n) x l h e = go (eqb (a + n) x) refl (size_in p a n x l)
  where
    go : (b : Bool) → eqb (a + n) x ≡ b → (x < a + n → p x ≡ true → size (less p x) a n + 1 ≤ size p a n) → pick (and (no b) (p (a + n))) 1 0 + size (less p x) a n + 1 ≤ pick (p (a + n)) 1 0 + size p a n
    go true q on =
        let s : a + n ≡ x = eqb-true (a + n) x q in
        rw (s, e) (omega (arith, size-out p a n x (omega arith)))
    go false q on = let s : a + n ≡ x → ⊥ = eqb-false (a + n) x q in omega (arith, on (omega arith) e)

-- every number of the list is in the range and passes
within : (p : ℕ → Bool) (a n : ℕ) (l : List ℕ) → twice l ≡ false → ((x : ℕ) → has x l ≡ true → (a ≤ x) × (x < a + n) × (p x ≡ true)) → length l ≤ size p a n
unfolding has twice less
within p a n [] e h = omega arith
within p a n (x ∷ l) e h =
    let o = or-false (has x l) (twice l) e in
    let here = h x (rw (eq-eqb x x refl)) in
    let rest : length l ≤ size (less p x) a n = within (less p x) a n l o.1 (λ y q. later y q o.0) in
    omega (arith, rest, size_in p a n x here.0 here.1 here.2)
  where
    later : (y : ℕ) → has y l ≡ true → has x l ≡ false → (a ≤ y) × (y < a + n) × (less p x y ≡ true)
    later y q f = go (eqb y x) refl
      where
        go : (b : Bool) → eqb y x ≡ b → (a ≤ y) × (y < a + n) × (and (no b) (p y) ≡ true)
        go true s = absurd (true≢false (sym q ∙ rw (eqb-true y x s) f))
        go false s = h y (rw (s, q))

pub pigeonhole : (a n : ℕ) (l : List ℕ) → twice l ≡ false → ((x : ℕ) → has x l ≡ true → (a ≤ x) × (x < a + n)) → length l ≤ n
pigeonhole a n l e h = omega (arith, within (λ x. true) a n l e (λ x q. ((h x q).0, (h x q).1, refl)), size-most (λ x. true) a n)

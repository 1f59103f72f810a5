-- Laws of `first_of`: a number is given exactly when its condition holds and none before it does.
use Prim.Native.Nat.{ℕ, zero, suc, ◌<◌}
use mathlib.Core.Path.{◌≡◌, refl, ap}
use mathlib.Core.Bool.{Bool, true, false}
use mathlib.Core.List.{List, [], ◌∷◌}
use mathlib.Core.Option.{Option, none, some}
use native.Mathlib.Omega.{arith}
use lib.ListN.{length}
use Rattle.reginfo.specs.Refused.{Condition, or_else, first_of}
use Rattle.reginfo.specs.Given.{condition_at, Given, NoneHolds}

or_else_none : (b : Bool) (n : ℕ) (o : Option ℕ) → or_else b n o ≡ none → (b ≡ false) × (o ≡ none)
or_else_none true n o e = let z : ◌≡◌ {A = ℕ} 0 1 = cc in absurd (omega arith)
or_else_none false n o e = (refl, e)

pub first-none : (l : List Condition) → first_of l ≡ none → NoneHolds l
unfolding first_of
first-none [] e i h = absurd (omega arith)
first-none (c ∷ l) e zero h = (or_else_none c.holds c.number (first_of l) e).0
first-none (c ∷ l) e (suc i) h = first-none l (or_else_none c.holds c.number (first_of l) e).1 i (omega arith)

pub none_first : (l : List Condition) → NoneHolds l → first_of l ≡ none
unfolding first_of
none_first [] h = refl
none_first (c ∷ l) h = rw (h 0 (omega arith)) (none_first l (λ i b. h (suc i) (omega arith)))

pub given-first : (l : List Condition) (n : ℕ) → Given l n → first_of l ≡ some n
unfolding first_of
given-first l n g = go l g.at g.is g.number g.holds g.earlier
  where
    go : (l : List Condition) (i : ℕ) → i < length l → (condition_at l i).number ≡ n → (condition_at l i).holds ≡ true → ((k : ℕ) → k < i → (condition_at l k).holds ≡ false) → first_of l ≡ some n
    go [] i b e h q = absurd (omega arith)
    go (c ∷ l) zero b e h q = rw h (ap some e)
    go (c ∷ l) (suc i) b e h q = rw (q 0 (omega arith)) (go l i (omega arith) e h (λ k a. q (suc k) (omega arith)))

pub first-given : (l : List Condition) (n : ℕ) → first_of l ≡ some n → Given l n
unfolding first_of
first-given [] n e = let z : ◌≡◌ {A = ℕ} 0 1 = cc in absurd (omega arith)
first-given (c ∷ l) n e = go c.holds refl e (first-given l n)
  where
    go : (b : Bool) → c.holds ≡ b → or_else b c.number (first_of l) ≡ some n → (first_of l ≡ some n → Given l n) → Given (c ∷ l) n
    go true h e on = record { at = 0; is = omega arith; number = cc; holds = h; earlier = λ k b. absurd (omega arith) }
    go false h e on =
        let g = on e in
        record { at = suc g.at; is = omega (arith, g.is); number = g.number; holds = g.holds; earlier = later h g }
      where
        later : c.holds ≡ false → (g : Given l n) → (k : ℕ) → k < suc g.at → (condition_at (c ∷ l) k).holds ≡ false
        later h g zero b = h
        later h g (suc k) b = g.earlier k (omega arith)

-- An argument's digits, one after the other.
use Prim.Native.Nat.{ℕ, zero, suc, ◌+◌, ◌<◌, ◌≤◌}
use mathlib.Core.Path.{◌≡◌, refl}
use mathlib.Core.List.{List, [], ◌∷◌}
use native.Mathlib.Omega.{arith}
use native.Mathlib.Numerals.{add-one}
use lib.ListN.{length, drop, get_or}
use lib.Seq.{drop-cons}
use Rattle.arguments.specs.Number.{stepped, number_from, number_in}

pub one-digit : (l : List ℕ) (i n : ℕ) → i < length l → number_from n (drop i l) ≡ number_from (stepped n (get_or l i 0)) (drop (i + 1) l)
unfolding number_from
one-digit l i n h = rw (add-one, drop-cons l i 0)

pub no_digit : (l : List ℕ) (i n : ℕ) → length l ≤ i → number_from n (drop i l) ≡ n
unfolding number_from
no_digit [] zero n h = refl
no_digit [] (suc i) n h = refl
no_digit (x ∷ l) zero n h = absurd (omega arith)
no_digit (x ∷ l) (suc i) n h = no_digit l i n (omega arith)

pub nothing-in : (l : List ℕ) → length l ≡ 0 → number_in l ≡ 4294967296
nothing-in [] h = refl
nothing-in (b ∷ l) h = absurd (omega arith)

pub some_in : (l : List ℕ) → (length l ≡ 0 → ⊥) → number_in l ≡ number_from 0 l
some_in [] h = absurd (h refl)
some_in (b ∷ l) h = refl

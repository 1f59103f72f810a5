-- How many of a list pass a test: one more, and of two lists.
use Prim.Native.Nat.{◌+◌, ◌≤◌}
use native.Mathlib.Omega.{arith}
use mathlib.Core.Path.{◌≡◌}
use mathlib.Core.Bool.{Bool, true, false}
use mathlib.Core.List.{List, [], ◌∷◌, ◌++◌}
use lib.ListN.{length}
use Rattle.entity.specs.Logic.{pick}
use Rattle.rules.specs.Edit.{filter}
use Rattle.rules.specs.Counts.{bit}

bit-most : (b : Bool) → bit b ≤ 1
unfolding bit
bit-most true = omega arith
bit-most false = omega arith

module _ {A : Type 0} (p : A → Bool) where
  pub count-cons : (x : A) (l : List A) → length (filter p (x ∷ l)) ≡ bit (p x) + length (filter p l)
  unfolding filter bit
  count-cons x l = go (p x)
    where
      go : (b : Bool) → length (pick b (x ∷ filter p l) (filter p l)) ≡ bit b + length (filter p l)
      go true = omega arith
      go false = omega arith

  pub count-append : (l m : List A) → length (filter p (l ++ m)) ≡ length (filter p l) + length (filter p m)
  unfolding filter
  count-append [] m = omega arith
  count-append (x ∷ l) m = omega (arith, count-cons x (l ++ m), count-cons x l, count-append l m)

  pub count_most : (l : List A) → length (filter p l) ≤ length l
  unfolding filter
  count_most [] = omega arith
  count_most (x ∷ l) = omega (arith, count-cons x l, bit-most (p x), count_most l)

-- Two lists of words held against each other, word by word.
use Prim.Native.Nat.{ℕ, suc, ◌+◌, ◌-◌, ◌<◌, ◌≤◌}
use mathlib.Core.Path.{◌≡◌, refl}
use mathlib.Core.Bool.{true, false}
use mathlib.Core.List.{List}
use native.Mathlib.Omega.{arith}
use borrow.Author.Tests.{eq-eqb, ne_eqb}
use lib.ListN.{get_or}
use Rattle.scratch_trials.specs.Cells.{differ_from}

module _ (l m : List ℕ) (i : ℕ) where
  pub same_word : i < 9 → get_or l i 0 ≡ get_or m i 0 → differ_from (9 - i) i l m ≡ differ_from (9 - (i + 1)) (i + 1) l m
  unfolding differ_from
  same_word h e = let z : 9 - i ≡ suc (9 - (i + 1)) = omega arith in rw (z, eq-eqb (get_or l i 0) (get_or m i 0) e) refl

  pub other_word : i < 9 → (get_or l i 0 ≡ get_or m i 0 → ⊥) → differ_from (9 - i) i l m ≡ true
  unfolding differ_from
  other_word h n = let z : 9 - i ≡ suc (9 - (i + 1)) = omega arith in rw (z, ne_eqb (get_or l i 0) (get_or m i 0) n) refl

  pub all_words : 9 ≤ i → differ_from (9 - i) i l m ≡ false
  unfolding differ_from
  all_words h = let z : 9 - i ≡ 0 = omega arith in rw z refl

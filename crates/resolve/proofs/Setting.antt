-- The setting that an argument gives, by its length and its byte.
use Prim.Native.Nat.{ℕ}
use mathlib.Core.Path.{◌≡◌, refl}
use mathlib.Core.List.{List, [], ◌∷◌}
use native.Mathlib.Omega.{arith}
use lib.Dec.{eqb}
use lib.ListN.{length, get_or}
use Rattle.entity.specs.Logic.{pick}
use Rattle.resolve.specs.Setting.{setting_of}

pub other_length : (l : List ℕ) → (length l ≡ 1 → ⊥) → 0 ≡ setting_of l
other_length [] h = refl
other_length (b ∷ []) h = absurd (h refl)
other_length (b ∷ c ∷ l) h = refl

pub one_byte : (l : List ℕ) → length l ≡ 1 → setting_of l ≡ pick (eqb (get_or l 0 0) 49) 1 (pick (eqb (get_or l 0 0) 50) 2 0)
one_byte [] h = absurd (omega arith)
one_byte (b ∷ []) h = refl
one_byte (b ∷ c ∷ l) h = absurd (omega arith)

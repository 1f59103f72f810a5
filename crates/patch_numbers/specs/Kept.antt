-- What the steps of the second reading ensure.
use Rattle.std.specs.Prelude.{ℕ, ◌+◌, ◌*◌, ◌≤◌, ◌≡◌, List, [], ◌∷◌, drop, take, set}
use Rattle.number.specs.Read.{Read, got, refused}
use Rattle.number.specs.declared.Number.{Number}
use Rattle.number.specs.declared.Number.TheVariants as N
use Rattle.patch_numbers.specs.declared.Four.{Four}
use Rattle.patch_numbers.specs.declared.Four.TheVariants.{Is, Refused}

abbrev pub four_of : List ℕ → Four → Read (List ℕ)
four_of s (Is kind x y z next) = got (kind ∷ x ∷ y ∷ z ∷ []) (drop next s)
four_of s (Refused k) = refused k

-- four numbers from k on
abbrev pub stored : List ℕ → (k kind x y z : ℕ) → List ℕ
stored l k kind x y z = set (set (set (set l k kind) (k + 1) x) (k + 2) y) (k + 3) z

-- the numbers of n entries stand at the front of the table
abbrev pub kept_of : (s numbers : List ℕ) → Number → Read (List ℕ)
kept_of s numbers (N.Is n next) = got (take (n * 4) numbers) (drop next s)
kept_of s numbers (N.Refused k) = refused k

abbrev pub FewIn : Number → Type 0
FewIn (N.Is n next) = n ≤ 128
FewIn (N.Refused k) = Unit {0}

pub record KeptAt (d : List ℕ → Read (List ℕ)) (s : List ℕ) (at : ℕ) (numbers : List ℕ) (r : Number) : Type 0 where
  pub reads : kept_of s numbers r ≡ d (drop at s)
  pub few : FewIn r

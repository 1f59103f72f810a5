-- What the enum of the code stands for.
use Rattle.std.specs.Prelude.{ℕ, ◌<◌, ◌≤◌, ◌≡◌, List, length, drop}
use Rattle.number.specs.Read.{Read, got, refused}
use Rattle.number.specs.Number.{number}
use Rattle.number.specs.declared.Number.{Number}
use Rattle.number.specs.declared.Number.TheVariants.{Is, Refused}

-- the bytes after a number are those from the next offset on
abbrev pub read_of : List ℕ → Number → Read ℕ
read_of s (Is n next) = got n (drop next s)
read_of s (Refused k) = refused k

-- the next offset is past the number and within the bytes
abbrev pub Onward : List ℕ → ℕ → Number → Type 0
Onward s at (Is n next) = (at < next) × (next ≤ length s)
Onward s at (Refused k) = Unit

-- what `read` answers at an offset; an offset past the end is a number cut off
pub record NumberAt (s : List ℕ) (at : ℕ) (r : Number) : Type 0 where
  pub reads : read_of s r ≡ number (drop at s)
  pub onward : Onward s at r

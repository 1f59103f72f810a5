-- What a reader answers at an offset, against the definition of what it reads.
use Rattle.std.specs.Prelude.{ℕ, ◌≤◌, ◌≡◌, List, length, drop}
use Rattle.number.specs.Read.{Read, got, refused}
use Rattle.number.specs.Answer.{read_of, Onward}
use Rattle.number.specs.declared.Number.{Number}
use Rattle.reading.specs.declared.Next.{Next}
use Rattle.reading.specs.declared.Next.TheVariants.{At, Refused}

-- one number
pub record ReadAt (d : List ℕ → Read ℕ) (s : List ℕ) (at : ℕ) (r : Number) : Type 0 where
  pub reads : read_of s r ≡ d (drop at s)
  pub onward : Onward s at r

-- x was read, and the bytes after it are those from the next offset on
abbrev pub next_of : {A : Type 0} → List ℕ → A → Next → Read A
next_of s x (At next) = got x (drop next s)
next_of s x (Refused k) = refused k

-- the next offset is not before this one and not past the end, and `kept` holds; of a refusal nothing is said
abbrev pub Past : List ℕ → ℕ → Type 0 → Next → Type 0
Past s at kept (At next) = (at ≤ next) × (at ≤ length s → next ≤ length s) × kept
Past s at kept (Refused k) = Unit

-- a part of a job that goes into a table, where it is x now, and what the table keeps
pub record NextAt {A : Type 0} (d : List ℕ → Read A) (s : List ℕ) (at : ℕ) (x : A) (kept : Type 0) (r : Next) : Type 0 where
  pub reads : next_of s x r ≡ d (drop at s)
  pub past : Past s at kept r

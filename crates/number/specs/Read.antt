-- What reading gives, of a job's bytes or of a part of them.
use Rattle.std.specs.Prelude.{ℕ, List}

-- what was read and the bytes after it, or the number of 01, Refused jobs
pub data Read (A : Type 0) : Type 0 where
  got : A → List ℕ → Read A
  refused : ℕ → Read A

-- the next part, with what this one gave; a refusal ends the reading
abbrev pub then : {A B : Type 0} → Read A → (A → List ℕ → Read B) → Read B
then (got a l) next = next a l
then (refused k) next = refused k

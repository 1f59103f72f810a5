-- What reading and writing ensure: how many bytes, and where the reader's or the writer's bytes are known, which.
use Rattle.std.specs.Prelude.{ℕ, ◌<◌, ◌≤◌, ◌≡◌, Option, Result, Ok, Err, List, length, take}
use Rattle.std.specs.Io.KnownBytes.{Appends, Consumes, IsAtEnd}

-- the bytes read lie within the buffer
abbrev pub GotIn : {E : Type 0} → List ℕ → Result ℕ E → Type 0
GotIn buf (Ok n) = (n ≤ length buf) × (n ≡ length (take n buf))
GotIn buf (Err e) = Unit {0}

-- they stand at its start and were the reader's next: all that it had, unless the buffer is full; before a failure some of them were read
abbrev pub GotFrom : {E : Type 0} → (old new : Option (List ℕ)) → (buf : List ℕ) → Result ℕ E → Type 0
GotFrom old new buf (Ok n) = Consumes old new (take n buf) × (n < length buf → IsAtEnd new)
GotFrom old new buf (Err e) = (n : ℕ) × (n ≤ length buf) × Consumes old new (take n buf)

-- some bytes of the buffer's start were written
abbrev pub WroteSome : (old new : Option (List ℕ)) → (buf : List ℕ) → Type 0
WroteSome old new buf = (n : ℕ) × (n ≤ length buf) × Appends old new (take n buf)

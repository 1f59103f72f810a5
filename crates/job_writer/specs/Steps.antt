-- What the steps of writing a job ensure.
use Rattle.std.specs.Prelude.{ℕ, ◌≤◌, ◌≡◌, Option, Some, None, List, ◌++◌, ltb, length, drop}
use Rattle.entity.specs.Logic.{pick}
use Rattle.job_numbers.specs.Numbers.{read_job, number_of, wrote, not_written, unless_number}
use Rattle.job_numbers.specs.Numbers as numbers
use Rattle.job_writer.specs.declared.Written.{Written}
use Rattle.job_writer.specs.declared.Written.TheVariants.{Bytes, Refused}

-- "18, the lent bytes are fewer than the job needs"
abbrev pub handed : List ℕ → (room : ℕ) → numbers.Written
handed l room = pick (ltb room (length l)) (not_written 18) (wrote l)

-- "tested after those"
abbrev pub settled : List ℕ → (room : ℕ) → numbers.Written
settled l room = unless_number (number_of (read_job l)) (handed l room)

-- an offset of so many working bytes
abbrev pub Within : ℕ → Option ℕ → Type 0
Within room (Some n) = n ≤ room
Within room None = Unit

-- where it is refused, every lent byte is as it was; else the job's bytes stand in front, and those past it are as they were
abbrev pub WrittenAs : numbers.Written → (out out' : List ℕ) → Written → Type 0
WrittenAs (wrote l) out out' r = (r ≡ Bytes (length l)) × (length l ≤ length out) × (out' ≡ l ++ drop (length l) out)
WrittenAs (not_written k) out out' r = (r ≡ Refused k) × (out' ≡ out)

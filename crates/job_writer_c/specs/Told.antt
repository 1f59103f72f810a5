-- What a caller in another language is answered of a job that is written.
use Rattle.std.specs.Prelude.{ℕ, ◌≤◌, ◌≡◌, List, ◌++◌, length, drop}
use Rattle.job_numbers.specs.Numbers.{Written, wrote, not_written}

-- the job's length and 0, its bytes in front and the caller's own past them; or 0 and the number, and every byte as it was
abbrev pub ToldAs : Written → (r refusal : ℕ) (bytes bytes' : List ℕ) → Type 0
ToldAs (wrote l) r refusal bytes bytes' = (r ≡ length l) × (refusal ≡ 0) × (length l ≤ length bytes) × (bytes' ≡ l ++ drop (length l) bytes)
ToldAs (not_written k) r refusal bytes bytes' = (r ≡ 0) × (refusal ≡ k) × (bytes' ≡ bytes)

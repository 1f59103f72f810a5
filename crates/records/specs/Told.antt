-- What is read of a record, and what is told of its job.
use Rattle.std.specs.Prelude.{ℕ, ◌≤◌, List, length, Option, Some, None, Result, Ok, Err}
use Rattle.job_rules.specs.Job.{job}
use Rattle.answer.specs.Words.{job_text}
use Rattle.records.specs.declared.Cut.{Cut}

-- a record that is there, by its number of kept evictions and the lengths of its job and text, lies within the lent bytes
abbrev pub Within : List ℕ → List ℕ → Result (Option (ℕ × ℕ × ℕ)) Cut → Type 0
Within job text (Ok (Some (kept, n, m))) = (n ≤ length job) × (m ≤ length text)
Within job text (Ok None) = Unit {0}
Within job text (Err _) = Unit {0}

-- all that 01 prints of a job with its setting
abbrev pub text_of : (kept : ℕ) → List ℕ → List ℕ
text_of kept s = job_text (job kept s)

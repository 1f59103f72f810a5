-- What the steps of writing a job's text ensure; of the bytes themselves, where it is known what the writer has got.
use Rattle.std.specs.Prelude.{ℕ, ◌≡◌, Option, Result, Ok, Err, List, length, take, drop}
use Rattle.std.specs.Io.KnownBytes.{Appends}
use Rattle.streams.specs.Moving.{WroteSome}
use Rattle.job_rules.specs.Job.{job}
use Rattle.answer.specs.Words.{job_text}
use Rattle.job_text.specs.declared.Progress.{Progress}
use Rattle.job_text.specs.Standing.{written_out}

-- the buffer is emptied, and what it held counts as written
abbrev pub WroteOn : {E : Type 0} → Progress → Result Progress E → Type 0
WroteOn p (Ok q) = q ≡ written_out p
WroteOn p (Err e) = Unit {0}

-- as many bytes are written as the text of the job with its setting has
abbrev pub AllWritten : {E : Type 0} → (kept : ℕ) → List ℕ → Result ℕ E → Type 0
AllWritten kept s (Ok n) = n ≡ length (job_text (job kept s))
AllWritten kept s (Err e) = Unit {0}

-- the writer has got what the buffer held, or a beginning of it
abbrev pub PieceOn : {E : Type 0} → (old new : Option (List ℕ)) → (out : List ℕ) → Progress → Result Progress E → Type 0
PieceOn old new out p (Ok q) = Appends old new (take p.held out)
PieceOn old new out p (Err e) = WroteSome old new (take p.held out)

-- the writer has got the text of the job with its setting from the byte at on, or a beginning of that
abbrev pub TextOn : {E : Type 0} → (old new : Option (List ℕ)) → (kept at : ℕ) → List ℕ → Result ℕ E → Type 0
TextOn old new kept at s (Ok n) = Appends old new (drop at (job_text (job kept s)))
TextOn old new kept at s (Err e) = WroteSome old new (drop at (job_text (job kept s)))

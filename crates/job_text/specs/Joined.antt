-- The whole of what is written: every list of writes that each got what `Piece` says, one after the other.
use Rattle.std.specs.Prelude.{ℕ, ◌+◌, ◌≡◌, List, [], ◌∷◌, ◌++◌, length, take}
use Rattle.job_rules.specs.Job.{job}
use Rattle.answer.specs.Words.{job_text}
use Rattle.job_text.specs.declared.Progress.{Progress}
use Rattle.job_text.specs.Standing.{Piece}

-- a write that was made: what the buffer held
pub record Made : Type 0 where
  pub out : List ℕ
  pub at : Progress

-- each wrote what follows on those before it, the last up to `end`
abbrev pub Wrote : (kept : ℕ) → List ℕ → List Made → ℕ → ℕ → Type 0
Wrote kept s [] written end = written ≡ end
Wrote kept s (x ∷ l) written end = (x.at.written ≡ written) × Piece kept s x.out x.at × Wrote kept s l (written + x.at.held) end

-- their texts, joined
unfoldable pub joined : List Made → List ℕ
joined [] = []
joined (x ∷ l) = take x.at.held x.out ++ joined l

-- from nothing written to as many bytes as the job's text has: the texts joined are the job's text
abbrev pub WholeText : Type 0
WholeText = (kept : ℕ) (s : List ℕ) (writes : List Made) → Wrote kept s writes 0 (length (job_text (job kept s))) → joined writes ≡ job_text (job kept s)

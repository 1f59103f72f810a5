-- How far the text of a job with its setting has come: what was written, what the buffer holds and what is to come are the whole of it.
use Rattle.std.specs.Prelude.{ℕ, ◌+◌, ◌*◌, ◌≤◌, ◌≡◌, true, false, List, [], ◌++◌, length, take, drop}
use Rattle.entity.specs.Logic.{pick}
use Rattle.function.specs.Known.{Checked}
use Rattle.function.specs.Table.{function_of}
use Rattle.parallel_moves.specs.Given.{CacheOk}
use Rattle.answer_text.specs.Lines.{refusal_text}
use Rattle.job_rules.specs.Job.{Answers, left_over, job}
use Rattle.answer.specs.Words.{number_of, done_text, job_text}
use Rattle.answer.specs.Whole.{rest}
use Rattle.job_text.specs.declared.Progress.{Progress}

-- nothing is written yet, and the buffer is empty
abbrev pub starting : (at left : ℕ) → Progress
starting at left = record { at = at; left = left; k = 1; written = 0; held = 0; ended = false }

-- what the buffer held is written
abbrev pub written_out : Progress → Progress
written_out p = record { at = p.at; left = p.left; k = p.k; written = p.written + p.held; held = 0; ended = p.ended }

-- how many steps are left at most
abbrev pub to_go : Progress → ℕ
to_go p = pick p.ended 0 (p.left + 1)

-- 20,480 bytes for each patch, and for the last line
abbrev pub most_bytes : ℕ
most_bytes = 20480 * 4294967297

-- all that is printed of answers, the first patch having the number k
abbrev pub text_from : ℕ → Answers → List ℕ
text_from k a = done_text k a.done ++ refusal_text (number_of a.refusal)

-- what is printed after the last patch
abbrev pub end_text : List ℕ → List ℕ
end_text l = refusal_text (number_of (left_over l).refusal)

-- nothing more is to come, and nothing else was written
pub record Ends (p r : Progress) : Type 0 where
  pub over : r.ended ≡ true
  pub kept : r.written ≡ p.written
  pub short : r.held ≤ p.held + 20480

-- what is to come: the answers from the next patch on
abbrev pub to_come : (t f s cache : List ℕ) → Progress → List ℕ
to_come t f s cache p = pick p.ended [] (text_from p.k (rest t f s p.at cache p.left))

module _ (kept : ℕ) (t f s cache : List ℕ) where
  -- what the next patch is answered from
  pub record Going (p : Progress) : Type 0 where
    pub checked : Checked t f
    pub setting : (function_of f).kept ≡ kept
    pub cached : CacheOk f cache
    pub few : p.k + p.left ≤ 4294967296
    pub short : p.written + p.held ≤ 20480 * p.k

  -- what the buffer holds and what is to come are what follows, in the job's text, on what was written
  pub record Stands (out : List ℕ) (p : Progress) : Type 0 where
    pub text : drop p.written (job_text (job kept s)) ≡ take p.held out ++ to_come t f s cache p
    pub within : p.written ≤ length (job_text (job kept s))
    pub room : p.held ≤ length out
    pub short : p.written + p.held ≤ most_bytes
    pub going : p.ended ≡ false → Going p

-- what the buffer holds is what follows, in the job's text, on what was written
pub record Piece (kept : ℕ) (s out : List ℕ) (p : Progress) : Type 0 where
  pub next : take p.held out ≡ take p.held (drop p.written (job_text (job kept s)))
  pub room : p.held ≤ length out
  pub within : p.written + p.held ≤ length (job_text (job kept s))
  pub short : p.written + p.held ≤ most_bytes

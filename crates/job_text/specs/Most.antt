-- How long a job's answer can be, whatever the setting: the two sizes that c/parallel_moves.h names.
use Rattle.std.specs.Prelude.{ℕ, ◌+◌, ◌*◌, ◌≤◌, List, length}
use Rattle.job_rules.specs.Job.{job}
use Rattle.answer.specs.Room.{most_words}
use Rattle.answer.specs.Words.{words_of, job_text, AllPacked}

-- the line of an edit has at most 19, each other line at most 36
abbrev pub most_text : ℕ
most_text = 19 * (2 * 65536) + 36 * 1025

abbrev pub WordsFit : Type 0
WordsFit = (kept : ℕ) (l : List ℕ) → length (words_of (job kept l).done) ≤ most_words

-- that the patches are packed is promised by `answer_job`
abbrev pub TextFits : Type 0
TextFits = (kept : ℕ) (l : List ℕ) → AllPacked (job kept l).done → length (job_text (job kept l)) ≤ most_text

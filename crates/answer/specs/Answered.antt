-- What a caller in another language is answered of a whole job.
use Rattle.std.specs.Prelude.{ℕ, ◌≤◌, ◌≡◌, List, ◌++◌, length, drop}
use Rattle.job_rules.specs.Job.{Answers}
use Rattle.answer.specs.Words.{words_of, number_of, AllPacked}

-- the count of the words, 01's number or 0, the words at the front and the caller's own behind them, and each word is that of one edit or head
-- only (so that they print as the job: `JobPrinted`)
pub record AnsweredAs (words : List ℕ) (a : Answers) (r refusal : ℕ) (words' : List ℕ) : Type 0 where
  pub count : r ≡ length (words_of a.done)
  pub number : refusal ≡ number_of a.refusal
  pub fits : length (words_of a.done) ≤ length words
  pub stands : words' ≡ words_of a.done ++ drop (length (words_of a.done)) words
  pub packed : AllPacked a.done

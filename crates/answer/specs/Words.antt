-- A job's answers as words, and as text.
use Rattle.std.specs.Prelude.{ℕ, ◌+◌, ◌<◌, ◌≡◌, true, List, [], ◌∷◌, ◌++◌, eqb, leb, length}
use Rattle.std.proofs.Math.Option.{Option, none, some}
use Rattle.entity.specs.Logic.{and, or}
use Rattle.edit.specs.Word.{AllInRange}
use Rattle.print.specs.Text.{patch_text}
use Rattle.answer_text.specs.Heads.{patch_words}
use Rattle.answer_text.specs.Lines.{refusal_text, answer_text}
use Rattle.job_rules.specs.Job.{Done, Answers, job}

-- patch by patch
unfoldable pub words_of : List Done → List ℕ
words_of [] = []
words_of (d ∷ l) = patch_words d.edits d.made d.position ++ words_of l

-- 01's number, 0 for none
abbrev pub number_of : Option ℕ → ℕ
number_of none = 0
number_of (some k) = k

-- the patches are numbered from k on
unfoldable pub done_text : ℕ → List Done → List ℕ
done_text k [] = []
done_text k (d ∷ l) = patch_text k d.edits d.made ++ done_text (k + 1) l

-- 01, The job: all that is printed of a job
abbrev pub job_text : Answers → List ℕ
job_text a = done_text 1 a.done ++ refusal_text (number_of a.refusal)

-- each edit has a word of its own, and the head tells how many edits and slots there are, and the position
pub record Packed (d : Done) : Type 0 where
  pub ranged : AllInRange d.edits
  pub few : length d.edits < 65536
  pub small : d.made < 65536
  pub low : d.position < 65536

abbrev pub AllPacked : List Done → Type 0
AllPacked [] = Unit {0}
AllPacked (d ∷ l) = Packed d × AllPacked l

-- then the words print as the job
abbrev pub JobPrinted : Type 0
JobPrinted = (a : Answers) → AllPacked a.done → answer_text (words_of a.done) (number_of a.refusal) ≡ job_text a

-- 01, Refused jobs: the numbers of the table; 02 h: 21; 02 i: 22
abbrev pub OfTable : ℕ → Type 0
OfTable n = or (and (leb 1 n) (leb n 17)) (or (eqb n 21) (eqb n 22)) ≡ true

-- a job is refused by one of them, whatever the setting
abbrev pub Numbered : Type 0
Numbered = (kept : ℕ) (l : List ℕ) (n : ℕ) → (job kept l).refusal ≡ some n → OfTable n

-- every job has a line: that of a patch, or of its refusal
abbrev pub SomePrinted : Type 0
SomePrinted = (kept : ℕ) (l : List ℕ) → 0 < length (job_text (job kept l))

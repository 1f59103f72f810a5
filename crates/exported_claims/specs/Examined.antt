-- 02 m of what is called: `parallel_moves_examine` answers what `examine_job` says and `parallel_moves_examine_in` what `examine_job_in` says, and this is what a
-- yes of theirs means.
use Rattle.std.specs.Prelude.{ℕ, ◌<◌, ◌≤◌, ◌≡◌, List, map, ◌↔◌}
use Rattle.std.proofs.Math.Option.{none}
use Rattle.function.specs.Function.{Function}
use Rattle.rules.specs.Edit.{Edit}
use Rattle.rules.specs.Patch.{Patch}
use Rattle.edit.specs.Word.{word_of}
use Rattle.number.specs.Read.{got}
use Rattle.job_rules.specs.Job.{Header, opening}
use Rattle.examine_rules.specs.Examine.{Yes, Does, patch_refusal}
use Rattle.examine_rules.specs.Examined.{AllNamed}
use Rattle.job_examine.specs.Job.{patch_at, examine_job, examine_job_in}

-- the job opens, has patch n, counted from 0, and reading accepts it and those before it; the words are those of edits that name places and values that
-- there are, slots below N + `most`, and from every start do what the patch asks
pub record DoesIt (most : Function → ℕ) (n : ℕ) (ws l : List ℕ) : Type 0 where
  pub header : Header
  pub rest : List ℕ
  pub patch : Patch
  pub behind : List ℕ
  pub edits : List Edit
  pub opens : opening 1 l ≡ got header rest
  pub there : n < header.patches
  pub reads : patch_at header.target header.function n rest ≡ got patch behind
  pub accepted : patch_refusal header.target header.function patch ≡ none
  pub words : ws ≡ map word_of edits
  pub names : AllNamed header.target header.function (most header.function) edits
  pub does : Does header.target header.function patch edits

-- "say yes exactly when [..]", of a job's bytes
abbrev pub JobExamined : Type 0
JobExamined = (n : ℕ) (ws l : List ℕ) → (examine_job n ws l ≡ Yes) ↔ DoesIt (λ f. f.limit) n ws l

-- "(in a shared frame, N plus its limit)": of a limit that a frame may have
abbrev pub JobExaminedIn : Type 0
JobExaminedIn = (limit n : ℕ) (ws l : List ℕ) → (examine_job_in limit n ws l ≡ Yes) ↔ ((limit ≤ 2048) × DoesIt (λ f. limit) n ws l)

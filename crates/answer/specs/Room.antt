-- A job answered into a lent list of words: each patch is lent what is left of the words behind its head, and 16 is given where that is shorter
-- than the bound of demand 3.
use Rattle.std.specs.Prelude.{ℕ, zero, suc, ◌+◌, ◌-◌, ◌*◌, ◌≤◌, ◌≡◌, List, [], ◌∷◌, ◌++◌, ◌↔◌, ltb, length}
use Rattle.reginfo.specs.RegInfo.{RegInfo}
use Rattle.reginfo.specs.Refused.{Condition, refused_if}
use Rattle.reginfo.specs.Given.{Given, NoneHolds}
use Rattle.function.specs.Function.{Function}
use Rattle.rules.specs.Edit.{Edit}
use Rattle.rules.specs.Scratch.{Cache, empty_cache}
use Rattle.rules.specs.Patch.{Patch, nothing_sorted, Answer, refused, resolved, sorted, bound, free_destination, last_overlaps, resolve}
use Rattle.rules.specs.Refusals.{entries_conditions}
use Rattle.job_patch.specs.Patches.{patch}
use Rattle.job_rules.specs.Job.{Resolver, Answers, after_read, after_call, left_over, opening, job_by}
use Rattle.job_rules.specs.Conditions.{Out, runs_out}

-- no word is left for the head
abbrev pub headless : Answer → Answer
headless (refused n) = refused n
headless (resolved es c n) = refused 16

-- a patch's head and its edits are words
abbrev pub words_taken : Answer → ℕ
words_taken (refused n) = 0
words_taken (resolved es c n) = 1 + length es

module _ (by : Resolver) (t : RegInfo) (f : Function) where
  -- a call with `left` words left, of which the head takes one
  abbrev pub call_in : Patch → ℕ → Cache → Answer
  call_in p zero c = headless (by t f p 0 c)
  call_in p (suc left) c = by t f p left c

  -- "There is one call for each patch, and what earlier patches gave stands"
  unfoldable pub patches_in : ℕ → Cache → (left : ℕ) → List ℕ → Answers
  patches_in zero c left l = left_over l
  patches_in (suc n) c left l =
      after_read (patch t f l) (λ p r. after_call (call_in p left c) (λ c'. patches_in n c' (left - words_taken (call_in p left c)) r))

module _ (out : Out) (t : RegInfo) (f : Function) where
  -- all conditions of a call in their order: the entries', "then 13, 14, 16, 17"; 16: "lent list shorter than the bound of demand 3"
  unfoldable pub conditions_in : Patch → (left : ℕ) → Cache → List Condition
  conditions_in p left c =
      entries_conditions t f p.entries nothing_sorted
      ++ (refused_if 13 (free_destination t f p (sorted t f p))
      ∷ refused_if 14 (last_overlaps t f (sorted t f p))
      ∷ refused_if 16 (ltb left (1 + bound (sorted t f p)))
      ∷ refused_if 17 (out t f p c)
      ∷ [])

-- "Each is given when its condition holds and none earlier does, else not."
pub record RefusalsInBy (by : Resolver) (out : Out) (t : RegInfo) (f : Function) (p : Patch) (left : ℕ) (c : Cache) : Type 0 where
  pub given : (n : ℕ) → (call_in by t f p left c ≡ refused n) ↔ Given (conditions_in out t f p left c) n
  pub taken : ((es : List Edit) × (c' : Cache) × (n : ℕ) × (call_in by t f p left c ≡ resolved es c' n)) ↔ NoneHolds (conditions_in out t f p left c)

abbrev pub RefusalsIn : RegInfo → Function → Patch → (left : ℕ) → Cache → Type 0
RefusalsIn t f p left c = RefusalsInBy resolve runs_out t f p left c

-- a whole job of a function with `kept` kept evictions, answered into `room` words
unfoldable pub job_in_by : Resolver → (room kept : ℕ) → List ℕ → Answers
job_in_by by room kept l = after_read (opening kept l) (λ h r. patches_in by h.target h.function h.patches empty_cache room r)

abbrev pub job_in : (room kept : ℕ) → List ℕ → Answers
job_in room kept l = job_in_by resolve room kept l

-- as many words are enough for every job: a move has at least 4 bytes of the job and at most 8 edits, a rebuild 3 and 5, and there are 1,024
-- patches (c/parallel_moves.h), each with its head
abbrev pub most_words : ℕ
most_words = 2 * 65536 + 1024

abbrev pub MostWordsBy : Resolver → Type 0
MostWordsBy by = (room : ℕ) → most_words ≤ room → (kept : ℕ) (l : List ℕ) → job_in_by by room kept l ≡ job_by by kept l

abbrev pub MostWords : Type 0
MostWords = MostWordsBy resolve

-- What the steps of answering a whole job ensure.
use Rattle.std.specs.Prelude.{ℕ, suc, ◌+◌, ◌-◌, ◌≤◌, ◌≡◌, List, ◌++◌, ltb, length, drop}
use Rattle.std.proofs.Math.Option.{Option, none, some}
use Rattle.entity.specs.Logic.{pick}
use Rattle.reginfo.specs.Table.{reg_info_of}
use Rattle.function.specs.Table.{function_of}
use Rattle.slots.specs.Stacks.{cache_of}
use Rattle.parallel_moves.specs.Given.{CacheOk}
use Rattle.print.specs.Put.{Put}
use Rattle.answer_text.specs.Heads.{patch_words}
use Rattle.job_rules.specs.Job.{Resolver, Done, Answers, ends_with, before, patches}
use Rattle.answer.specs.Words.{words_of, Packed, AllPacked}
use Rattle.answer.specs.Room.{patches_in}
use Rattle.answer.specs.declared.Onward.{Onward}
use Rattle.answer.specs.declared.Onward.TheVariants as O
use Rattle.answer.specs.declared.Whole.{Whole}
use Rattle.answer.specs.declared.Whole.TheVariants.{Answered, Refused}

-- where the words behind a head at n begin, of `len` words
abbrev pub behind_head : (n len : ℕ) → ℕ
behind_head n len = pick (ltb n len) (n + 1) n

-- what is answered from here on, if so many patches are left and the list lent to each call has room for it
abbrev pub rest : (t f s : List ℕ) → (at : ℕ) → (cache : List ℕ) → ℕ → Answers
rest t f s at cache left = patches (reg_info_of t) (function_of f) left (cache_of cache) (drop at s)

module _ (by : Resolver) (t f s : List ℕ) (at : ℕ) (cache : List ℕ) where
  -- what is answered from here on, if so many patches and words are left
  abbrev pub rest_in : (left words : ℕ) → Answers
  rest_in left words = patches_in by (reg_info_of t) (function_of f) left (cache_of cache) words (drop at s)

  -- the patch at an offset was answered and its words stand from n on; or it is refused, and the words are as they were
  abbrev pub Next : (cache' words words' : List ℕ) → ℕ → Onward → Type 0
  Next cache' words words' n (O.At next m) =
      (d : Done)
      × ((left : ℕ) → rest_in (suc left) (length words - n) ≡ before d (patches_in by (reg_info_of t) (function_of f) left (cache_of cache') (length words - m) (drop next s)))
      × Put words words' n (patch_words d.edits d.made d.position) m × CacheOk f cache' × (next ≤ length s) × Packed d
  Next cache' words words' n (O.Refused k) = ((left : ℕ) → rest_in (suc left) (length words - n) ≡ ends_with (some k)) × (words' ≡ words)

abbrev pub ended : Option ℕ → ℕ → Whole
ended none n = Answered n
ended (some k) n = Refused k n

-- the words of the patches that were resolved stand at the front of the lent words, the others are the caller's own, and each word is that of
-- one edit or head only
pub record Wholly (words : List ℕ) (a : Answers) (r : Whole) (words' : List ℕ) : Type 0 where
  pub is : r ≡ ended a.refusal (length (words_of a.done))
  pub fits : length (words_of a.done) ≤ length words
  pub stands : words' ≡ words_of a.done ++ drop (length (words_of a.done)) words
  pub packed : AllPacked a.done

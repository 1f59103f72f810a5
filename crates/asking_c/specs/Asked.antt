-- 02 g: what a caller in another language is answered that asks for a patch and takes it.
use Rattle.std.specs.Prelude.{ℕ, ◌≡◌, List, ◌++◌, map, length, drop}
use Rattle.entity.specs.Logic.{Anything}
use Rattle.function.specs.Table.{function_of}
use Rattle.rules.specs.Patch.{Answer, refused, resolved}
use Rattle.edit.specs.Word.{word_of, AllInRange}
use Rattle.slots.specs.Stacks.{stamp_of}
use Rattle.slots.specs.Steps.{Committed}
use Rattle.parallel_moves.specs.Answers.{Pending}

-- `Asks` of crate parallel_moves, as a count and numbers; where it is refused, those that would be taken stay as they were
abbrev pub AskedAs : (f : List ℕ) → Answer → (r refusal made made' position position' stamp stamp' : ℕ) → (list list' cache slots' : List ℕ) → Type 0
AskedAs f (refused n) r refusal made made' position position' stamp stamp' list list' cache slots' =
    (r ≡ 0) × (refusal ≡ n) × (made' ≡ made) × (position' ≡ position) × (stamp' ≡ stamp) × (list' ≡ list) × Anything slots'
AskedAs f (resolved es c n) r refusal made made' position position' stamp stamp' list list' cache slots' =
    (r ≡ length es) × (refusal ≡ 0) × (made' ≡ c.made) × (position' ≡ n) × (stamp' ≡ stamp_of cache) × (list' ≡ map word_of es ++ drop (length es) list) × AllInRange es
    × Pending f (function_of f).limit cache slots' c

-- `Takes` of crate parallel_moves, as a number
pub record TakenAs (made stamp : ℕ) (slots cache : List ℕ) (r : ℕ) (cache' : List ℕ) : Type 0 where
  pub same : stamp ≡ stamp_of cache → (r ≡ 0) × Committed slots cache cache' made
  pub other : (stamp ≡ stamp_of cache → ⊥) → (r ≡ 20) × (cache' ≡ cache)

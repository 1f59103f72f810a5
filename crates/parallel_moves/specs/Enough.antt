-- 02 j of the code: with L enough no call answers 17, and between calls every slot made lies in the stack of its size once.
use Rattle.std.specs.Prelude.{ℕ, ◌+◌, ◌*◌, ◌≤◌, ◌≡◌, List, [], ◌∷◌, ◌++◌, map, take}
use Rattle.std.proofs.Math.Option.{some}
use Rattle.reginfo.specs.Table.{reg_info_of}
use Rattle.function.specs.Known.{Checked}
use Rattle.function.specs.Table.{function_of}
use Rattle.rules.specs.Edit.{Edit}
use Rattle.machine.specs.Enough.{num_sizes, OfItsSize, Between}
use Rattle.edit.specs.Word.{word_of, AllInRange}
use Rattle.slots.specs.Stacks.{cache_of}
use Rattle.slots.specs.Steps.{Fresh}
use Rattle.parallel_moves.specs.Answers.{number_of, edits_in}
use Rattle.parallel_moves.specs.Claim.{Made, Called}

-- "a function never meets 17"
abbrev pub NeverOut : List Made → Type 0
NeverOut [] = Unit {0}
NeverOut (x ∷ l) = (number_of x.answer ≡ some 17 → ⊥) × NeverOut l

-- so many a size and so many more as evictions are kept, "for every list of demand 3"
abbrev pub EnoughWith : ℕ → Type 0
EnoughWith n =
    (t f : List ℕ) → Checked t f → (n + (function_of f).kept) * num_sizes (reg_info_of t) (function_of f) ≤ (function_of f).limit
    → (calls : List Made) (cache : List ℕ) → Fresh cache → Called t f calls cache → NeverOut calls

-- "129 times the number of different slot sizes among its banks [..]. With two, 130 stands for 129."
abbrev pub Enough : Type 0
Enough = EnoughWith 128

-- one fewer of each size is enough too
abbrev pub FewerEnough : Type 0
FewerEnough = EnoughWith 127

-- the words that a call handed out
abbrev pub handed_out : Made → List ℕ
handed_out x = take (edits_in x.answer) x.after

module _ (t f : List ℕ) where
  -- they are the words of these edits and of no other; each slot that the call made is named by one of them, and each that they name lies in the
  -- stack of its size
  pub record Handed (x : Made) (cache : List ℕ) (es : List Edit) : Type 0 where
    pub words : handed_out x ≡ map word_of es
    pub ranged : AllInRange es
    pub sized : OfItsSize (reg_info_of t) (function_of f) (cache_of cache) es (cache_of x.cache)

  -- "between patches every slot made lies in the stack of its size once": `es` are the edits of all calls so far
  abbrev pub SizesClaim : List Made → List Edit → List ℕ → Type 0
  SizesClaim [] es cache = Between (reg_info_of t) (function_of f) es (cache_of cache)
  SizesClaim (x ∷ l) es cache = Between (reg_info_of t) (function_of f) es (cache_of cache) × (new : List Edit) × Handed x cache new × SizesClaim l (es ++ new) x.cache

abbrev pub EachOfItsSize : Type 0
EachOfItsSize = (t f : List ℕ) → Checked t f → (calls : List Made) (cache : List ℕ) → Fresh cache → Called t f calls cache → SizesClaim t f calls [] cache

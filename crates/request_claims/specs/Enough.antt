-- 02 j of every list of calls: with L enough none answers 17, an asking neither; and between patches every slot made lies in the stack of its size.
use Rattle.std.specs.Prelude.{ℕ, ◌+◌, ◌*◌, ◌≤◌, ◌≡◌, List, [], ◌∷◌, ◌++◌}
use Rattle.std.proofs.Math.Option.{some}
use Rattle.reginfo.specs.Table.{reg_info_of}
use Rattle.function.specs.Table.{function_of}
use Rattle.rules.specs.Edit.{Edit}
use Rattle.rules.specs.Take.{Served, fresh}
use Rattle.machine.specs.Enough.{num_sizes, SizedIn, edits_in, Between}
use Rattle.slots.specs.Stacks.{cache_of}
use Rattle.parallel_moves.specs.declared.asking.Asked as A
use Rattle.parallel_moves.specs.declared.asking.TakeAnswer as K
use Rattle.parallel_moves.specs.Answers.{number_of}
use Rattle.calls.specs.declared.Opened.TheVariants.{Yes}
use Rattle.calls.specs.Opening.{opened, OpenedAs}
use Rattle.request_claims.specs.Calls.{Made, resolving, grouping, asking, taking, Held, holding, left, standing, answered, after}
use Rattle.request_claims.specs.Claim.{Called, FewIfTaken}

-- "a function never meets 17"
abbrev pub NotOut : Made → Type 0
NotOut (resolving x) = number_of x.answer ≡ some 17 → ⊥
NotOut (grouping x) = number_of x.answer ≡ some 17 → ⊥
NotOut (asking x) = x.answer ≡ A.TheVariants.Refused 17 → ⊥
NotOut (taking x) = x.answer ≡ K.TheVariants.Refused 17 → ⊥

abbrev pub NeverOut : List Made → Type 0
NeverOut [] = Unit {0}
NeverOut (x ∷ l) = NotOut x × NeverOut l

-- so many a size and so many more as evictions are kept
abbrev pub EnoughWith : ℕ → Type 0
EnoughWith n =
    (kept : ℕ) (bytes t f cache cache' : List ℕ) → OpenedAs (opened kept bytes) Yes t f cache cache' → (n + kept) * num_sizes (reg_info_of t) (function_of f) ≤ (function_of f).limit
    → (calls : List Made) → Called t f calls (holding cache') → FewIfTaken (reg_info_of t) (function_of f) calls fresh → NeverOut calls

-- "129 times the number of different slot sizes among its banks, for every list of demand 3 [..]. With two, 130 stands for 129."
abbrev pub Enough : Type 0
Enough = EnoughWith 128

-- one fewer of each size is enough too
abbrev pub FewerEnough : Type 0
FewerEnough = EnoughWith 127

-- "between patches every slot made lies in the stack of its size once": `es` are the edits of all patches resolved or taken so far; of an asking, of
-- the cache that its take makes
module _ (t f : List ℕ) where
  abbrev pub SizesClaim : List Made → List Edit → Held → Served → Type 0
  SizesClaim [] es s v = Between (reg_info_of t) (function_of f) es (cache_of s.cache)
  SizesClaim (x ∷ l) es s v =
      Between (reg_info_of t) (function_of f) es (cache_of s.cache) × SizedIn (reg_info_of t) (function_of f) (cache_of s.cache) (answered (reg_info_of t) (function_of f) x v)
      × SizesClaim l (es ++ edits_in (reg_info_of t) (function_of f) (standing (reg_info_of t) (function_of f) x v)) (left x s) (after (reg_info_of t) (function_of f) x v)

abbrev pub EachOfItsSize : Type 0
EachOfItsSize =
    (kept : ℕ) (bytes t f cache cache' : List ℕ) → OpenedAs (opened kept bytes) Yes t f cache cache' → (calls : List Made) → Called t f calls (holding cache')
    → FewIfTaken (reg_info_of t) (function_of f) calls fresh → SizesClaim t f calls [] (holding cache') fresh

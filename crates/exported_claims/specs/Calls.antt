-- One function's calls as C and Rust make them: `parallel_moves_resolve`, `parallel_moves_resolve_groups`, `parallel_moves_ask` and
-- `parallel_moves_take`, what each was given beside the opened tables, and what it answered and left.
use Rattle.std.specs.Prelude.{ℕ, ◌≡◌, Bool, true, false, List, [], ◌∷◌, ◌++◌, map, eqb, length, get_or}
use Rattle.std.proofs.Math.Option.{Option, none, some}
use Rattle.reginfo.specs.Table.{reg_info_of}
use Rattle.function.specs.Table.{function_of}
use Rattle.rules.specs.Scratch.{Cache}
use Rattle.rules.specs.Patch.{Answer}
use Rattle.slots.specs.Stacks.{cache_of, stamp_of}
use Rattle.parallel_moves.specs.declared.Resolved as R
use Rattle.parallel_moves.specs.declared.Resolved.{Resolved}
use Rattle.parallel_moves.specs.declared.asking.Asked as A
use Rattle.parallel_moves.specs.declared.asking.Asked.{Asked}
use Rattle.parallel_moves.specs.declared.asking.TakeAnswer as K
use Rattle.parallel_moves.specs.declared.asking.TakeAnswer.{TakeAnswer}
use Rattle.parallel_moves.specs.Given.{CacheOk}
use Rattle.parallel_moves.specs.Answers.{CanTake}
use Rattle.calls.specs.Call.{call_of}
use Rattle.group_calls.specs.Call.{call_by_groups}
use Rattle.calls_c.specs.Called as whole
use Rattle.groups_c.specs.Called as groups
use Rattle.asking_c.specs.Asked.{AskedAs, TakenAs}
use Rattle.request_claims.specs.Calls as calls

-- a call of `parallel_moves_resolve` or `parallel_moves_resolve_groups`: `position` is what stood there, `count` what was answered
pub record MadeCall : Type 0 where
  pub free : List ℕ
  pub numbers : List ℕ
  pub list : List ℕ
  pub position : ℕ
  pub count : ℕ
  pub refusal : ℕ
  pub position' : ℕ
  pub after : List ℕ
  pub cache : List ℕ

-- a call of `parallel_moves_ask`; `slots` is the table for this answer alone
pub record MadeAsk : Type 0 where
  pub free : List ℕ
  pub numbers : List ℕ
  pub list : List ℕ
  pub made : ℕ
  pub position : ℕ
  pub stamp : ℕ
  pub count : ℕ
  pub refusal : ℕ
  pub made' : ℕ
  pub position' : ℕ
  pub stamp' : ℕ
  pub after : List ℕ
  pub slots : List ℕ

-- a call of `parallel_moves_take`: it was passed what the n-th asking, counted from 0, left
pub record MadeTake : Type 0 where
  pub asking : ℕ
  pub answer : ℕ
  pub cache : List ℕ

pub data Made : Type 0 where
  resolving : MadeCall → Made
  grouping : MadeCall → Made
  asking : MadeAsk → Made
  taking : MadeTake → Made

-- ---- what a program holds between calls
-- of an asking: the numbers that it set, and its table
pub record Kept : Type 0 where
  pub made : ℕ
  pub position : ℕ
  pub stamp : ℕ
  pub slots : List ℕ

pub record Held : Type 0 where
  pub cache : List ℕ
  pub kept : List (Option Kept)

abbrev pub holding : List ℕ → Held
holding cache = record { cache = cache; kept = [] }

-- "A refused asking leaves nothing to take": one that set `refusal` to something else than 0
abbrev pub kept_if : Bool → MadeAsk → Option Kept
kept_if true x = some (record { made = x.made'; position = x.position'; stamp = x.stamp'; slots = x.slots })
kept_if false x = none

abbrev pub left : Made → Held → Held
left (resolving x) s = record { cache = x.cache; kept = s.kept }
left (grouping x) s = record { cache = x.cache; kept = s.kept }
left (asking x) s = record { cache = s.cache; kept = s.kept ++ (kept_if (eqb x.refusal 0) x ∷ []) }
left (taking x) s = record { cache = x.cache; kept = s.kept }

-- ---- the calls did as the contracts of the exported functions say
module _ (t f : List ℕ) where
  abbrev pub ruled : (free numbers list : List ℕ) → Cache → Answer
  ruled free numbers list c = call_of (reg_info_of t) (function_of f) free numbers (length list) c

  abbrev pub ruled_by_groups : (free numbers list : List ℕ) → Cache → Answer
  ruled_by_groups free numbers list c = call_by_groups (reg_info_of t) (function_of f) free numbers (length list) c

  -- of what an asking left; of a refused one there is nothing to pass
  abbrev pub TakeDid : Option Kept → MadeTake → List ℕ → Type 0
  TakeDid none x cache = ⊥
  TakeDid (some k) x cache = (k.stamp ≡ stamp_of cache → CanTake k.slots cache) → TakenAs k.made k.stamp k.slots cache x.answer x.cache

  abbrev pub Did : Made → Held → Type 0
  Did (resolving x) s =
      CacheOk f s.cache
      → whole.CalledAs f (ruled x.free x.numbers x.list (cache_of s.cache)) x.count x.refusal x.position x.position' x.list x.after s.cache x.cache
  Did (grouping x) s =
      CacheOk f s.cache
      → groups.CalledAs f (ruled_by_groups x.free x.numbers x.list (cache_of s.cache)) x.count x.refusal x.position x.position' x.list x.after s.cache
      x.cache
  Did (asking x) s =
      CacheOk f s.cache
      → AskedAs f (ruled x.free x.numbers x.list (cache_of s.cache)) x.count x.refusal x.made x.made' x.position x.position' x.stamp x.stamp'
      x.list x.after s.cache x.slots
  Did (taking x) s = TakeDid (get_or s.kept x.asking none) x s.cache

  -- "nothing else writes the cache between calls": each gets the cache as the last one left it
  abbrev pub Called : List Made → Held → Type 0
  Called [] s = Unit {0}
  Called (x ∷ l) s = Did x s × Called l (left x s)

-- ---- what the numbers that were set say, as an answer of Rattle's own calls: 0 is no refusal, and any other number is one
abbrev pub resolved_if : Bool → MadeCall → Resolved
resolved_if true x = R.TheVariants.Edits x.count x.position'
resolved_if false x = R.TheVariants.Refused x.refusal

abbrev pub asked_if : Bool → MadeAsk → Asked
asked_if true x = A.TheVariants.Ready x.count (record { made = x.made'; position = x.position'; stamp = x.stamp' })
asked_if false x = A.TheVariants.Refused x.refusal

abbrev pub taken_if : Bool → MadeTake → TakeAnswer
taken_if true x = K.TheVariants.Yes
taken_if false x = K.TheVariants.Refused x.answer

abbrev pub said_of : Made → calls.Made
said_of (resolving x) =
    calls.resolving (record { free = x.free; numbers = x.numbers; list = x.list; answer = resolved_if (eqb x.refusal 0) x; after = x.after; cache = x.cache })
said_of (grouping x) =
    calls.grouping (record { free = x.free; numbers = x.numbers; list = x.list; answer = resolved_if (eqb x.refusal 0) x; after = x.after; cache = x.cache })
said_of (asking x) =
    calls.asking (record { free = x.free; numbers = x.numbers; list = x.list; answer = asked_if (eqb x.refusal 0) x; after = x.after; slots = x.slots })
said_of (taking x) = calls.taking (record { asking = x.asking; answer = taken_if (eqb x.answer 0) x; cache = x.cache })

abbrev pub said : List Made → List calls.Made
said l = map said_of l

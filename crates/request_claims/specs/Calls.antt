-- 02 g and 02 k: one function's calls as a program makes them, patch by patch: resolved, resolved by groups, asked for, taken; and what the rules
-- answer them.
use Rattle.std.specs.Prelude.{ℕ, ◌+◌, ◌≡◌, List, [], ◌∷◌, ◌++◌, map, length, get_or}
use Rattle.std.proofs.Math.Option.{Option, none, some}
use Rattle.reginfo.specs.RegInfo.{RegInfo}
use Rattle.function.specs.Function.{Function}
use Rattle.rules.specs.Patch.{Answer}
use Rattle.rules.specs.Take as take
use Rattle.rules.specs.Take.{Served, fresh, Standing, taken_of, answer_in, stamped_by, counts_in}
use Rattle.group_rules.specs.Requests as rules
use Rattle.group_rules.specs.Requests.{Request}
use Rattle.parallel_moves.specs.declared.asking.Asked as A
use Rattle.parallel_moves.specs.declared.asking.Asked.{Asked}
use Rattle.parallel_moves.specs.declared.asking.Preview.{Preview}
use Rattle.parallel_moves.specs.declared.asking.TakeAnswer.{TakeAnswer}
use Rattle.calls.specs.Call.{free_refusal, patch_of, call_of}
use Rattle.calls.specs.Claim as resolve
use Rattle.group_calls.specs.Call.{call_by_groups}

-- a call of `ask` that was made: what it was given beside the cache, and what it answered and left; `slots` is the table for this answer alone
pub record MadeAsk : Type 0 where
  pub free : List ℕ
  pub numbers : List ℕ
  pub list : List ℕ
  pub answer : Asked
  pub after : List ℕ
  pub slots : List ℕ

-- a call of `take` that was made: it was passed what the n-th asking, counted from 0, answered and left
pub record MadeTake : Type 0 where
  pub asking : ℕ
  pub answer : TakeAnswer
  pub cache : List ℕ

-- a call of `resolve_groups` is given and answers what one of `resolve` does
pub data Made : Type 0 where
  resolving : resolve.Made → Made
  grouping : resolve.Made → Made
  asking : MadeAsk → Made
  taking : MadeTake → Made

-- ---- what a program holds between calls
-- of an asking: what it answered, and its table
pub record Kept : Type 0 where
  pub preview : Preview
  pub slots : List ℕ

-- "that cache as it was last returned or left", and what the askings left to take, in their order; none: refused
pub record Held : Type 0 where
  pub cache : List ℕ
  pub kept : List (Option Kept)

-- an opened function's cache, nothing asked for
abbrev pub holding : List ℕ → Held
holding cache = record { cache = cache; kept = [] }

-- "A refused asking leaves nothing to take."
abbrev pub kept_of : Asked → List ℕ → Option Kept
kept_of (A.TheVariants.Ready n a) slots = some (record { preview = a; slots = slots })
kept_of (A.TheVariants.Refused n) slots = none

abbrev pub left : Made → Held → Held
left (resolving x) s = record { cache = x.cache; kept = s.kept }
left (grouping x) s = record { cache = x.cache; kept = s.kept }
left (asking x) s = record { cache = s.cache; kept = s.kept ++ (kept_of x.answer x.slots ∷ []) }
left (taking x) s = record { cache = x.cache; kept = s.kept }

-- ---- what the rules answer: as in group_rules/specs/Requests, a call refused for its free units being a refused one
module _ (t : RegInfo) (f : Function) where
  -- "Patches only asked for are not part of the list that the stop-anywhere statement ranges over; a taken one stands in it as a resolved one,
  -- a take refused with 20 as a refused call." 02 k: "demand 3 holds of it as of a resolved patch": one by groups stands in it with the whole patch.
  unfoldable pub standing : Made → Served → Option Standing
  standing (resolving x) v = some (record { patch = patch_of x.free x.numbers; answer = call_of t f x.free x.numbers (length x.list) v.now.cache })
  standing (grouping x) v = some (record { patch = patch_of x.free x.numbers; answer = call_by_groups t f x.free x.numbers (length x.list) v.now.cache })
  standing (asking x) v = none
  standing (taking x) v = taken_of (get_or v.asked x.asking none) v.now

  unfoldable pub answered : Made → Served → Option Answer
  answered (resolving x) v = answer_in (standing (resolving x) v)
  answered (grouping x) v = answer_in (standing (grouping x) v)
  answered (asking x) v = some (call_of t f x.free x.numbers (length x.list) v.now.cache)
  answered (taking x) v = answer_in (standing (taking x) v)

  unfoldable pub asked_after : Made → Served → List (Option take.Preview)
  asked_after (resolving x) v = v.asked
  asked_after (grouping x) v = v.asked
  asked_after (asking x) v =
      v.asked ++ (take.preview_of (patch_of x.free x.numbers) (length x.list) v.now.count (call_of t f x.free x.numbers (length x.list) v.now.cache) ∷ [])
  asked_after (taking x) v = v.asked

  abbrev pub after : Made → Served → Served
  after x v = record { now = stamped_by v.now (standing x v); asked = asked_after x v }

  unfoldable pub after_all : List Made → Served → Served
  after_all [] v = v
  after_all (x ∷ l) v = after_all l (after x v)

  -- how many patches these calls took or resolved
  unfoldable pub settled : List Made → Served → ℕ
  settled [] v = 0
  settled (x ∷ l) v = counts_in (standing x v) + settled l (after x v)

-- ---- the calls whose free units are right are requests of the rules, so that what is shown there of takes and of groups holds of them
abbrev pub request_of : Made → Request
request_of (resolving x) = rules.single (take.resolving (patch_of x.free x.numbers) (length x.list))
request_of (grouping x) = rules.grouping (patch_of x.free x.numbers) (length x.list)
request_of (asking x) = rules.single (take.asking (patch_of x.free x.numbers) (length x.list))
request_of (taking x) = rules.single (take.taking x.asking)

abbrev pub FreeRight : RegInfo → Made → Type 0
FreeRight t (resolving x) = free_refusal t.units x.free ≡ none
FreeRight t (grouping x) = free_refusal t.units x.free ≡ none
FreeRight t (asking x) = free_refusal t.units x.free ≡ none
FreeRight t (taking x) = Unit {0}

abbrev pub AllFreeRight : RegInfo → List Made → Type 0
AllFreeRight t [] = Unit {0}
AllFreeRight t (x ∷ l) = FreeRight t x × AllFreeRight t l

pub record IsRequest (t : RegInfo) (f : Function) (x : Made) (v : Served) : Type 0 where
  pub stands : standing t f x v ≡ rules.standing t f (request_of x) v
  pub answers : answered t f x v ≡ rules.answered t f (request_of x) v
  pub goes : after t f x v ≡ rules.after t f (request_of x) v

abbrev pub Requests : Type 0
Requests =
    (t : RegInfo) (f : Function) (calls : List Made) → AllFreeRight t calls
    → (after_all t f calls fresh ≡ rules.reached t f (map request_of calls)) × (settled t f calls fresh ≡ rules.settled t f (map request_of calls) fresh)

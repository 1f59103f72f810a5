-- 02 g, preview and take: the one type of a function's calls, what each is answered, and what a take does.
use Rattle.std.specs.Prelude.{ℕ, ◌+◌, ◌<◌, ◌≡◌, List, [], ◌∷◌, ◌++◌, ◌↔◌, eqb, length, get_or}
use Rattle.std.proofs.Math.Option.{Option, none, some}
use Rattle.entity.specs.Logic.{pick}
use Rattle.reginfo.specs.RegInfo.{RegInfo}
use Rattle.function.specs.Function.{Function}
use Rattle.rules.specs.Edit.{Edit}
use Rattle.rules.specs.Scratch.{Cache, empty_cache}
use Rattle.rules.specs.Patch.{Patch, Answer, refused, resolved, resolve, Call, cache_after}

-- a cache, and how many patches were taken or resolved on it
-- Every patch taken or resolved raises it, also one that leaves the cache as it was: 20 asks what happened since, not whether it mattered.
pub record Counted : Type 0 where
  pub cache : Cache
  pub count : ℕ

-- an answer to take: what was asked for, its edits, the cache that taking makes, the greatest position met (02 d), and the count at the asking
pub record Preview : Type 0 where
  pub patch : Patch
  pub room : ℕ
  pub edits : List Edit
  pub after : Cache
  pub position : ℕ
  pub count : ℕ

-- one function's calls: a patch is resolved, or asked for, with the length of the lent list; the answer of the n-th asking, counted from 0, is
-- taken
pub data Request : Type 0 where
  resolving asking : Patch → ℕ → Request
  taking : ℕ → Request

-- the cache as the last call returned or left it, and the answers of the askings in their order; "A refused asking leaves nothing to take": none
pub record Served : Type 0 where
  pub now : Counted
  pub asked : List (Option Preview)

abbrev pub fresh : Served
fresh = record { now = record { cache = empty_cache; count = 0 }; asked = [] }

-- "20, taking an answer when its cache has taken one or resolved a patch since the asking, tested first in a take": told by the count
-- The count is the same exactly where nothing was settled since: the cache is then that of the asking, and what resolving would make of it is known.
unfoldable pub take_answer : Preview → Counted → Answer
take_answer a c = pick (eqb a.count c.count) (resolved a.edits a.after a.position) (refused 20)

-- a refused call is not counted
-- it changes no cache, so what was asked for before it may still be taken
abbrev pub counts : Answer → ℕ
counts (refused n) = 0
counts (resolved es c n) = 1

-- the cache after a call, and its count
abbrev pub stamped : Counted → Answer → Counted
stamped c r = record { cache = cache_after c.cache r; count = c.count + counts r }

-- what an asking leaves to take
abbrev pub preview_of : Patch → ℕ → ℕ → Answer → Option Preview
preview_of p room count (refused n) = none
preview_of p room count (resolved es c n) = some (record { patch = p; room = room; edits = es; after = c; position = n; count = count })

-- a patch and its answer, as they stand in the list of demand 3
pub record Standing : Type 0 where
  pub patch : Patch
  pub answer : Answer

abbrev pub taken_of : Option Preview → Counted → Option Standing
taken_of none c = none
taken_of (some a) c = some (record { patch = a.patch; answer = take_answer a c })

abbrev pub answer_in : Option Standing → Option Answer
answer_in none = none
answer_in (some x) = some x.answer

-- what has no place in the list leaves the cache and its count
abbrev pub stamped_by : Counted → Option Standing → Counted
stamped_by c none = c
stamped_by c (some x) = stamped c x.answer

abbrev pub counts_in : Option Standing → ℕ
counts_in none = 0
counts_in (some x) = counts x.answer

-- a `resolve` call is a request
abbrev pub request : Call → Request
request x = resolving x.patch x.room

module _ (t : RegInfo) (f : Function) where
  -- "Patches only asked for are not part of the list that the stop-anywhere statement ranges over; a taken one stands in it as a resolved one,
  -- a take refused with 20 as a refused call."
  unfoldable pub standing : Request → Served → Option Standing
  standing (resolving p room) s = some (record { patch = p; answer = resolve t f p room s.now.cache })
  standing (asking p room) s = none
  standing (taking n) s = taken_of (get_or s.asked n none) s.now

  -- what a request is answered: "Asking returns edits and slots made"; none where there is nothing to take
  unfoldable pub answered : Request → Served → Option Answer
  answered (resolving p room) s = answer_in (standing (resolving p room) s)
  answered (asking p room) s = some (resolve t f p room s.now.cache)
  answered (taking n) s = answer_in (standing (taking n) s)

  unfoldable pub asked_after : Request → Served → List (Option Preview)
  asked_after (resolving p room) s = s.asked
  asked_after (asking p room) s = s.asked ++ (preview_of p room s.now.count (resolve t f p room s.now.cache) ∷ [])
  asked_after (taking n) s = s.asked

  abbrev pub after : Request → Served → Served
  after x s = record { now = stamped_by s.now (standing x s); asked = asked_after x s }

  unfoldable pub after_all : List Request → Served → Served
  after_all [] s = s
  after_all (x ∷ l) s = after_all l (after x s)

  -- a request leaves the cache and its count as they were
  abbrev pub LeavesNow : Request → Served → Type 0
  LeavesNow x s = (after x s).now ≡ s.now

  -- asking "changes no cache", nor its count
  abbrev pub AskingLeaves : Type 0
  AskingLeaves = (p : Patch) (room : ℕ) (s : Served) → LeavesNow (asking p room) s

  -- how many patches these requests took or resolved
  unfoldable pub settled : List Request → Served → ℕ
  settled [] s = 0
  settled (x ∷ l) s = counts_in (standing x s) + settled l (after x s)

  -- where these requests lead from a fresh cache
  abbrev pub reached : List Request → Served
  reached l = after_all l fresh

  -- this counts the patches taken or resolved from a fresh cache on
  abbrev pub Counts : (List Request → ℕ) → Type 0
  Counts count = (l : List Request) → count l ≡ settled l fresh

  -- the count is their number; what is said of takes is owed while it is below 2^64
  abbrev pub CountIs : Type 0
  CountIs = Counts (λ l. (reached l).now.count)

  -- what was asked for would be answered so, here and now
  abbrev pub AnsweredNow : Preview → Served → Answer → Type 0
  AnsweredNow a s r = resolve t f a.patch a.room s.now.cache ≡ r

  -- "taking makes the cache what resolving would have made it": a take that is not refused is answered as `resolve` is, here and now
  abbrev pub TakesAreCalls : Type 0
  TakesAreCalls =
      (l : List Request) (n : ℕ) (a : Preview) (es : List Edit) (c : Cache) (m : ℕ) → get_or (reached l).asked n none ≡ some a → take_answer a (reached l).now ≡ resolved es c m
      → AnsweredNow a (reached l) (resolved es c m)

  -- at s a patch is asked for, then come other requests, k
  module _ (s : Served) (p : Patch) (room : ℕ) where
    abbrev pub behind : Served
    behind = after (asking p room) s

    -- the take of that asking's answer
    abbrev pub its_take : Request
    its_take = taking (length s.asked)

    -- "20 [..] when its cache has taken one or resolved a patch since the asking", and only then; "A refused asking leaves nothing to take."
    abbrev pub TwentyAfter : List Request → Answer → Type 0
    TwentyAfter k (refused n) = answered its_take (after_all k behind) ≡ none
    TwentyAfter k (resolved es c n) = (answered its_take (after_all k behind) ≡ some (refused 20)) ↔ (0 < settled k behind)

    -- answer, cache and count are those of resolving
    abbrev pub AsResolved : List Request → Answer → Type 0
    AsResolved k (refused n) = Unit {0}
    AsResolved k (resolved es c n) =
        (answered its_take (after_all k behind) ≡ answered (resolving p room) s) × ((after its_take (after_all k behind)).now ≡ (after (resolving p room) s).now)

  abbrev pub Twenty : Type 0
  Twenty = (l k : List Request) (p : Patch) (room : ℕ) → TwentyAfter (reached l) p room k (resolve t f p room (reached l).now.cache)

  -- "Asking then taking equals resolving whenever no patch was taken or resolved on that cache between."
  abbrev pub AskingThenTaking : Type 0
  AskingThenTaking =
      (l k : List Request) (p : Patch) (room : ℕ) → settled k (behind (reached l) p room) ≡ 0 → AsResolved (reached l) p room k (resolve t f p room (reached l).now.cache)

  -- so the patch behind it is answered the same, whether the one before was taken or resolved
  abbrev pub NextAsResolved : Type 0
  NextAsResolved =
      (l k : List Request) (p : Patch) (room : ℕ) (es : List Edit) (c : Cache) (n : ℕ) → resolve t f p room (reached l).now.cache ≡ resolved es c n
      → settled k (behind (reached l) p room) ≡ 0 → (q : Patch) (room' : ℕ)
      → answered (resolving q room') (after (its_take (reached l) p room) (after_all k (behind (reached l) p room)))
      ≡ answered (resolving q room') (after (resolving p room) (reached l))

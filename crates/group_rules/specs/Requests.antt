-- 02 k: a call by groups is one more case of the calls of 02 g; "a resolved patch" there is one resolved by groups too.
use Rattle.std.specs.Prelude.{ℕ, ◌+◌, ◌<◌, ◌≡◌, List, [], ◌∷◌, ◌↔◌, get_or}
use Rattle.std.proofs.Math.Option.{Option, none, some}
use Rattle.reginfo.specs.RegInfo.{RegInfo}
use Rattle.function.specs.Function.{Function}
use Rattle.rules.specs.Edit.{Edit}
use Rattle.rules.specs.Scratch.{Cache}
use Rattle.rules.specs.Patch.{Patch, Answer, refused, resolved, resolve}
use Rattle.rules.specs.Take as take
use Rattle.rules.specs.Take.{Preview, Served, fresh, take_answer, Standing, answer_in, stamped_by, counts_in, behind, its_take}
use Rattle.group_rules.specs.Groups.{resolve_by_groups}

-- one function's calls: those of 02 g, and a patch resolved by groups with the length of the lent list
-- One type for all calls, so that what is claimed of every list is claimed of lists that mix them.
pub data Request : Type 0 where
  single : take.Request → Request
  grouping : Patch → ℕ → Request

module _ (t : RegInfo) (f : Function) where
  -- "demand 3 holds of it as of a resolved patch": it stands in the list of demand 3 with the whole patch
  unfoldable pub standing : Request → Served → Option Standing
  standing (single x) s = take.standing t f x s
  standing (grouping p room) s = some (record { patch = p; answer = resolve_by_groups t f p room s.now.cache })

  unfoldable pub answered : Request → Served → Option Answer
  answered (single x) s = take.answered t f x s
  answered (grouping p room) s = answer_in (standing (grouping p room) s)

  unfoldable pub asked_after : Request → Served → List (Option Preview)
  asked_after (single x) s = take.asked_after t f x s
  asked_after (grouping p room) s = s.asked

  -- one patch: the count rises by one, with no group too
  abbrev pub after : Request → Served → Served
  after x s = record { now = stamped_by s.now (standing x s); asked = asked_after x s }

  unfoldable pub after_all : List Request → Served → Served
  after_all [] s = s
  after_all (x ∷ l) s = after_all l (after x s)

  -- how many patches these requests took or resolved, by groups or not
  unfoldable pub settled : List Request → Served → ℕ
  settled [] s = 0
  settled (x ∷ l) s = counts_in (standing x s) + settled l (after x s)

  abbrev pub reached : List Request → Served
  reached l = after_all l fresh

  -- 02 g's statements, of lists that mix them
  abbrev pub CountIs : Type 0
  CountIs = (l : List Request) → (reached l).now.count ≡ settled l fresh

  abbrev pub TakesAreCalls : Type 0
  TakesAreCalls =
      (l : List Request) (n : ℕ) (a : Preview) (es : List Edit) (c : Cache) (m : ℕ) → get_or (reached l).asked n none ≡ some a → take_answer a (reached l).now ≡ resolved es c m
      → resolve t f a.patch a.room (reached l).now.cache ≡ resolved es c m

  -- at s a patch is asked for, then come other requests, k
  module _ (s : Served) (p : Patch) (room : ℕ) where
    abbrev pub TwentyAfter : List Request → Answer → Type 0
    TwentyAfter k (refused n) = answered (single (its_take t f s p room)) (after_all k (behind t f s p room)) ≡ none
    TwentyAfter k (resolved es c n) = (answered (single (its_take t f s p room)) (after_all k (behind t f s p room)) ≡ some (refused 20)) ↔ (0 < settled k (behind t f s p room))

    abbrev pub AsResolved : List Request → Answer → Type 0
    AsResolved k (refused n) = Unit {0}
    AsResolved k (resolved es c n) =
        (answered (single (its_take t f s p room)) (after_all k (behind t f s p room)) ≡ answered (single (take.resolving p room)) s)
        × ((after (single (its_take t f s p room)) (after_all k (behind t f s p room))).now ≡ (after (single (take.resolving p room)) s).now)

  abbrev pub Twenty : Type 0
  Twenty = (l k : List Request) (p : Patch) (room : ℕ) → TwentyAfter (reached l) p room k (resolve t f p room (reached l).now.cache)

  abbrev pub AskingThenTaking : Type 0
  AskingThenTaking =
      (l k : List Request) (p : Patch) (room : ℕ) → settled k (behind t f (reached l) p room) ≡ 0
      → AsResolved (reached l) p room k (resolve t f p room (reached l).now.cache)

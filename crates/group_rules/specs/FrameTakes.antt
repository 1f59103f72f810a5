-- 02 l's takes in a frame, over lists in which patches are resolved by groups too.
use Rattle.std.specs.Prelude.{ℕ, ◌+◌, ◌<◌, ◌≡◌, List, [], ◌∷◌, ◌↔◌, ◌⊎◌, eqb, length, get_or}
use Rattle.std.proofs.Math.Option.{none, some}
use Rattle.entity.specs.Logic.{pick}
use Rattle.rules.specs.Edit.{Edit}
use Rattle.rules.specs.Scratch.{Cache}
use Rattle.rules.specs.Patch.{Patch, Answer, refused, resolved}
use Rattle.rules.specs.Take as take
use Rattle.rules.specs.Take.{counts_in}
use Rattle.frame_rules.specs.Frame.{Inlined, open_refusal, Asked, Frame, opened, cache_in, resolve_in, take_in}
use Rattle.frame_rules.specs.Takes.{behind_in, its_take_in}
use Rattle.group_rules.specs.Requests.{Request, single}
use Rattle.group_rules.specs.Frame.{standing_in, answered_in, after_in, FrameCall, after_call, after_calls, Named, told}

-- how many patches of formula i these calls took or resolved, by groups or not
unfoldable pub settled_by : ℕ → List FrameCall → Frame → ℕ
settled_by i [] s = 0
settled_by i (x ∷ l) s = pick (eqb x.formula i) (counts_in (standing_in s i x.request)) 0 + settled_by i l (after_call s x)

-- at s formula i asks for a patch, then come other calls, k
module _ (s : Frame) (i : ℕ) (p : Patch) (room : ℕ) where
  abbrev pub take_of : Request
  take_of = single (its_take_in s i p room)

  -- 20 exactly where the formula took or resolved a patch since, or another made a slot
  abbrev pub TwentyIn : List FrameCall → Answer → Type 0
  TwentyIn k (refused n) = answered_in (after_calls k (behind_in s i p room)) i take_of ≡ none
  TwentyIn k (resolved es c n) =
      (answered_in (after_calls k (behind_in s i p room)) i take_of ≡ some (refused 20))
      ↔ ((0 < settled_by i k (behind_in s i p room)) ⊎ (s.counter < (after_calls k (behind_in s i p room)).counter))

  abbrev pub AsResolvedIn : List FrameCall → Answer → Type 0
  AsResolvedIn k (refused n) = Unit {0}
  AsResolvedIn k (resolved es c n) =
      (told (after_calls k (behind_in s i p room)) (record { formula = i; request = take_of }) ≡ told s (record { formula = i; request = single (take.resolving p room) }))
      × (cache_in (after_in (after_calls k (behind_in s i p room)) i take_of) i ≡ cache_in (after_in s i (single (take.resolving p room))) i)

pub record TakesAnswered (limit : ℕ) (l : List Inlined) (calls : List FrameCall) : Type 0 where
  pub twenty :
      (k : List FrameCall) → Named (length l) k → (i : ℕ) → i < length l → (p : Patch) (room : ℕ)
      → TwentyIn (after_calls calls (opened limit l)) i p room k (resolve_in (after_calls calls (opened limit l)) i p room)
  pub as-resolved :
      (k : List FrameCall) → Named (length l) k → (i : ℕ) → i < length l → (p : Patch) (room : ℕ)
      → settled_by i k (behind_in (after_calls calls (opened limit l)) i p room) ≡ 0
      → (after_calls k (behind_in (after_calls calls (opened limit l)) i p room)).counter ≡ (after_calls calls (opened limit l)).counter
      → AsResolvedIn (after_calls calls (opened limit l)) i p room k (resolve_in (after_calls calls (opened limit l)) i p room)
  pub are-calls :
      (i : ℕ) → i < length l → (n : ℕ) (a : Asked) (es : List Edit) (c : Cache) (m : ℕ) → get_or ((after_calls calls (opened limit l)).formulas i).asked n none ≡ some a
      → take_in a (after_calls calls (opened limit l)) i ≡ resolved es c m
      → resolve_in (after_calls calls (opened limit l)) i a.preview.patch a.preview.room ≡ resolved es c m

abbrev pub TakesInFrame : Type 0
TakesInFrame = (limit : ℕ) (l : List Inlined) → open_refusal limit l ≡ none → (calls : List FrameCall) → Named (length l) calls → TakesAnswered limit l calls

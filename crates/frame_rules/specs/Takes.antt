-- 02 l, takes in a frame: "A take gives 20 also where another formula made a slot since the asking, a case that g's equality then leaves out."
use Rattle.std.specs.Prelude.{ℕ, ◌+◌, ◌<◌, ◌≡◌, List, [], ◌∷◌, ◌↔◌, ◌⊎◌, eqb, length, get_or}
use Rattle.std.proofs.Math.Option.{none, some}
use Rattle.entity.specs.Logic.{pick}
use Rattle.rules.specs.Edit.{Edit}
use Rattle.rules.specs.Scratch.{Cache}
use Rattle.rules.specs.Patch.{Patch, Answer, refused, resolved}
use Rattle.rules.specs.Take.{Request, asking, taking, resolving, counts_in}
use Rattle.frame_rules.specs.Frame.{Inlined, open_refusal, Asked, Frame, opened, cache_in, resolve_in, take_in, standing_in, answered_in, after_in, FrameCall, after_call, after_calls, Named, told}

-- how many patches of formula i these calls took or resolved
unfoldable pub settled_by : ℕ → List FrameCall → Frame → ℕ
settled_by i [] s = 0
settled_by i (x ∷ l) s = pick (eqb x.formula i) (counts_in (standing_in s i x.request)) 0 + settled_by i l (after_call s x)

-- at s formula i asks for a patch, then come other calls, k
module _ (s : Frame) (i : ℕ) (p : Patch) (room : ℕ) where
  abbrev pub behind_in : Frame
  behind_in = after_in s i (asking p room)

  abbrev pub its_take_in : Request
  its_take_in = taking (length (s.formulas i).asked)

  -- 20 exactly where the formula took or resolved a patch since (02 g) or the counter went on: another formula's slot, since a slot of its own
  -- is of a patch resolved or taken; "A refused asking leaves nothing to take."
  abbrev pub TwentyIn : List FrameCall → Answer → Type 0
  TwentyIn k (refused n) = answered_in (after_calls k behind_in) i its_take_in ≡ none
  TwentyIn k (resolved es c n) =
      (answered_in (after_calls k behind_in) i its_take_in ≡ some (refused 20)) ↔ ((0 < settled_by i k behind_in) ⊎ (s.counter < (after_calls k behind_in).counter))

  -- what is told, the formula's cache and the counter are those of resolving in place of the asking
  abbrev pub AsResolvedIn : List FrameCall → Answer → Type 0
  AsResolvedIn k (refused n) = Unit {0}
  AsResolvedIn k (resolved es c n) =
      (told (after_calls k behind_in) (record { formula = i; request = its_take_in }) ≡ told s (record { formula = i; request = resolving p room }))
      × (cache_in (after_in (after_calls k behind_in) i its_take_in) i ≡ cache_in (after_in s i (resolving p room)) i)

-- "a refused one unchanged": a call that is refused leaves the counter and each formula's stacks, count of slots made and count
pub record Unchanged (s s' : Frame) : Type 0 where
  pub counter : s'.counter ≡ s.counter
  pub stacks : (j : ℕ) → (s'.formulas j).stacks ≡ (s.formulas j).stacks
  pub made : (j : ℕ) → (s'.formulas j).made ≡ (s.formulas j).made
  pub count : (j : ℕ) → (s'.formulas j).count ≡ (s.formulas j).count

abbrev pub RefusedUnchanged : Type 0
RefusedUnchanged = (s : Frame) (i : ℕ) (x : Request) (n : ℕ) → answered_in s i x ≡ some (refused n) → Unchanged s (after_in s i x)

-- and so does every asking
abbrev pub AskingUnchanged : Type 0
AskingUnchanged = (s : Frame) (i : ℕ) (p : Patch) (room : ℕ) → Unchanged s (after_in s i (asking p room))

pub record TakesAnswered (limit : ℕ) (l : List Inlined) (calls : List FrameCall) : Type 0 where
  pub twenty :
      (k : List FrameCall) → Named (length l) k → (i : ℕ) → i < length l → (p : Patch) (room : ℕ)
      → TwentyIn (after_calls calls (opened limit l)) i p room k (resolve_in (after_calls calls (opened limit l)) i p room)
  -- 02 g's equality, where the formula took and resolved nothing between and the counter stands
  pub as-resolved :
      (k : List FrameCall) → Named (length l) k → (i : ℕ) → i < length l → (p : Patch) (room : ℕ)
      → settled_by i k (behind_in (after_calls calls (opened limit l)) i p room) ≡ 0
      → (after_calls k (behind_in (after_calls calls (opened limit l)) i p room)).counter ≡ (after_calls calls (opened limit l)).counter
      → AsResolvedIn (after_calls calls (opened limit l)) i p room k (resolve_in (after_calls calls (opened limit l)) i p room)
  -- a take that is not refused is answered as resolving that patch now is
  pub are-calls :
      (i : ℕ) → i < length l → (n : ℕ) (a : Asked) (es : List Edit) (c : Cache) (m : ℕ) → get_or ((after_calls calls (opened limit l)).formulas i).asked n none ≡ some a
      → take_in a (after_calls calls (opened limit l)) i ≡ resolved es c m
      → resolve_in (after_calls calls (opened limit l)) i a.preview.patch a.preview.room ≡ resolved es c m

abbrev pub TakesInFrame : Type 0
TakesInFrame = (limit : ℕ) (l : List Inlined) → open_refusal limit l ≡ none → (calls : List FrameCall) → Named (length l) calls → TakesAnswered limit l calls

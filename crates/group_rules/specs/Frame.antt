-- 02 k in a frame (02 l): a call by groups is one more case of the calls of a formula.
use Rattle.std.specs.Prelude.{ℕ, ◌+◌, ◌*◌, ◌<◌, ◌≤◌, ◌≡◌, List, [], ◌∷◌, ◌⊎◌, length, get_or}
use Rattle.std.proofs.Math.Option.{Option, none, some}
use Rattle.rules.specs.Edit.{Edit}
use Rattle.rules.specs.Scratch.{Cache, ScratchAllocator}
use Rattle.rules.specs.Patch.{Patch, Answer, refused, resolved, sorted, resolve}
use Rattle.rules.specs.Refusals.{EndsWithSlots}
use Rattle.rules.specs.Take.{Standing, answer_in, stamped_by}
use Rattle.machine.specs.Claim.{Owed}
use Rattle.machine.specs.Enough.{num_sizes}
use Rattle.frame_rules.specs.Frame as frame
use Rattle.frame_rules.specs.Frame.{Inlined, open_refusal, first_slots, Asked, Frame, no_formula, opened, lacks, cache_in, now_in, function_in, made_to, with_cache, Told, told_of}
use Rattle.frame_rules.specs.Promise.{Kept, PromisedTo}
use Rattle.frame_rules.specs.Claim.{FrameStacks}
use Rattle.frame_rules.specs.Takes.{Unchanged}
use Rattle.group_rules.specs.Groups.{parts, resolve_by_groups}
use Rattle.group_rules.specs.Requests.{Request, single, grouping}

-- one share for all groups: how far the counter may go stands still during a call
unfoldable pub groups_in : Frame → ℕ → Patch → ℕ → Answer
groups_in s i p room = resolve_by_groups (s.formulas i).target (function_in s i) p room (cache_in s i)

unfoldable pub standing_in : Frame → ℕ → Request → Option Standing
standing_in s i (single x) = frame.standing_in s i x
standing_in s i (grouping p room) = some (record { patch = p; answer = groups_in s i p room })

unfoldable pub answered_in : Frame → ℕ → Request → Option Answer
answered_in s i (single x) = frame.answered_in s i x
answered_in s i (grouping p room) = answer_in (standing_in s i (grouping p room))

unfoldable pub asked_in : Frame → ℕ → Request → List (Option Asked)
asked_in s i (single x) = frame.asked_in s i x
asked_in s i (grouping p room) = (s.formulas i).asked

abbrev pub after_in : Frame → ℕ → Request → Frame
after_in s i x = with_cache s i (stamped_by (now_in s i) (standing_in s i x)) (asked_in s i x)

pub record FrameCall : Type 0 where
  pub formula : ℕ
  pub request : Request

abbrev pub after_call : Frame → FrameCall → Frame
after_call s x = after_in s x.formula x.request

unfoldable pub after_calls : List FrameCall → Frame → Frame
after_calls [] s = s
after_calls (x ∷ l) s = after_calls l (after_call s x)

abbrev pub Named : ℕ → List FrameCall → Type 0
Named n [] = Unit {0}
Named n (x ∷ l) = (x.formula < n) × Named n l

abbrev pub told : Frame → FrameCall → Told
told s x = told_of s x.formula (answered_in s x.formula x.request)

-- ---- 02 l's statements, of lists that mix the calls
-- "Demand 3 holds for each formula's own list, whatever slots the others make between its calls."
abbrev pub FrameClaim : List FrameCall → Frame → Type 0
FrameClaim [] s = Unit {0}
FrameClaim (x ∷ l) s =
    Owed (s.formulas x.formula).target (s.formulas x.formula).function (standing_in s x.formula x.request) × FrameClaim l (after_call s x)

abbrev pub FrameDemand3 : Type 0
FrameDemand3 =
    (limit : ℕ) (l : List Inlined) → open_refusal limit l ≡ none → (calls : List FrameCall) → Named (length l) calls → FrameClaim calls (opened limit l)

-- "Slot numbers come from one counter."
abbrev pub FrameSlots : Type 0
FrameSlots =
    (limit : ℕ) (l : List Inlined) → open_refusal limit l ≡ none → (calls : List FrameCall) → Named (length l) calls
    → FrameStacks (first_slots l) (after_calls calls (opened limit l))

-- a group that is out of slots, after those before it: with slots enough it would make more than the share
abbrev pub OutAbove : Frame → ℕ → ℕ → List Patch → Cache → Type 0
OutAbove s i room [] c = ⊥
OutAbove s i room (q ∷ l) c =
    ((k : ScratchAllocator) × EndsWithSlots (s.formulas i).target (function_in s i) q (sorted (s.formulas i).target (function_in s i) q) c k × ((s.formulas i).share < made_to s i k.cache.made))
    ⊎ ((es : List Edit) × (d : Cache) × (n : ℕ) × (resolve (s.formulas i).target (function_in s i) q room c ≡ resolved es d n) × OutAbove s i room l d)

pub record PromisedToGroups (s : Frame) (i : ℕ) : Type 0 where
  pub promised : PromisedTo s i
  -- no call of another changes what it lacks
  pub lasts : (x : FrameCall) → (x.formula ≡ i → ⊥) → lacks (after_call s x) i ≡ lacks s i
  -- 17 comes above the share alone
  pub above : (p : Patch) (room : ℕ) → groups_in s i p room ≡ refused 17 → OutAbove s i room (parts (s.formulas i).target p) (cache_in s i)

-- "No order of the others' patches takes a promised slot away"
abbrev pub Promised : Type 0
Promised =
    (limit : ℕ) (l : List Inlined) → open_refusal limit l ≡ none → (calls : List FrameCall) → Named (length l) calls
    → Kept (after_calls calls (opened limit l)) × ((i : ℕ) → i < length l → PromisedToGroups (after_calls calls (opened limit l)) i)

-- with slots enough every group, after those before it, would make no more than the share
abbrev pub ShareEnough : Frame → ℕ → List Patch → Cache → Type 0
ShareEnough s i [] c = Unit {0}
ShareEnough s i (q ∷ l) c =
    (k : ScratchAllocator) × EndsWithSlots (s.formulas i).target (function_in s i) q (sorted (s.formulas i).target (function_in s i) q) c k
    × (made_to s i k.cache.made ≤ (s.formulas i).share) × ShareEnough s i l k.cache

abbrev pub PatchEnough : Frame → ℕ → Patch → Type 0
PatchEnough s i p = ShareEnough s i (parts (s.formulas i).target p) (cache_in s i)

-- then there is no 17
abbrev pub WithinShare : Type 0
WithinShare =
    (limit : ℕ) (l : List Inlined) → open_refusal limit l ≡ none → (calls : List FrameCall) → Named (length l) calls → (i : ℕ) → i < length l
    → (p : Patch) (room : ℕ) → PatchEnough (after_calls calls (opened limit l)) i p → groups_in (after_calls calls (opened limit l)) i p room ≡ refused 17 → ⊥

-- with 02 j: a share that meets no 17, whatever the others call
abbrev pub EnoughShare : Type 0
EnoughShare =
    (limit : ℕ) (l : List Inlined) → open_refusal limit l ≡ none → (calls : List FrameCall) → Named (length l) calls → (i : ℕ) → i < length l
    → (128 + (get_or l i no_formula).function.kept) * num_sizes (get_or l i no_formula).target (get_or l i no_formula).function ≤ (get_or l i no_formula).share
    → (x : Request) → answered_in (after_calls calls (opened limit l)) i x ≡ some (refused 17) → ⊥

-- "a refused one unchanged"
abbrev pub RefusedUnchanged : Type 0
RefusedUnchanged = (s : Frame) (i : ℕ) (x : Request) (n : ℕ) → answered_in s i x ≡ some (refused n) → Unchanged s (after_in s i x)

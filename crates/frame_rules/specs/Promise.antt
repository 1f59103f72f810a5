-- 02 l: the promised shares.
use Rattle.std.specs.Prelude.{ℕ, ◌+◌, ◌-◌, ◌*◌, ◌<◌, ◌≤◌, ◌≡◌, List, [], ltb, length, get_or}
use Rattle.std.proofs.Math.Option.{none, some}
use Rattle.entity.specs.Logic.{pick}
use Rattle.rules.specs.Scratch.{Cache, ScratchAllocator, acquire}
use Rattle.rules.specs.Counts.{sum}
use Rattle.rules.specs.Patch.{Patch, refused, sorted}
use Rattle.rules.specs.Refusals.{EndsWithSlots}
use Rattle.rules.specs.Take.{Request}
use Rattle.machine.specs.Enough.{num_sizes}
use Rattle.frame_rules.specs.Frame.{Inlined, open_refusal, Frame, no_formula, opened, lacks, others_lack, may_make, reach, cache_in, function_in, resolve_in, answered_in, made_to, FrameCall, after_call, after_calls, Named}

-- the one number of a call says of each slot what the sentence says: whatever the frame, a slot is made below `reach` exactly where it may be
abbrev pub MayMake : Type 0
MayMake = (s : Frame) (i x : ℕ) → s.counter ≤ x → ltb x (reach s i) ≡ may_make s i x

-- so a slot that is needed, its stack being empty, is made exactly where the formula may make it, with the counter's number; "otherwise its patch
-- gets 17": none
abbrev pub MakesSlot : Type 0
MakesSlot =
    (s : Frame) (i z : ℕ) (c : Cache) → s.counter ≤ c.made → c.stacks z ≡ []
    → acquire (s.formulas i).target (function_in s i) z c
    ≡ pick (may_make s i c.made) (some (record { slot = (s.formulas i).function.slots + c.made; cache = record { stacks = c.stacks; made = c.made + 1 } })) none

-- between calls: the counter is the slots made, and with what all lack of their shares they are within the limit
-- This is why no promise fails: a slot made below a share lowers what is lacking, and one above it is made only if it fits beside all that is
-- lacking.
pub record Kept (s : Frame) : Type 0 where
  pub counted : s.counter ≡ sum (λ j. (s.formulas j).made) s.number
  pub within : s.counter + sum (lacks s) s.number ≤ s.limit

pub record PromisedTo (s : Frame) (i : ℕ) : Type 0 where
  -- all that the others do not lack
  pub is : reach s i ≡ s.limit - others_lack s i
  -- what it lacks of its share it may make, within the limit
  pub free : s.counter + lacks s i ≤ reach s i
  pub within : reach s i ≤ s.limit
  -- no call of another changes what it lacks
  pub lasts : (x : FrameCall) → (x.formula ≡ i → ⊥) → lacks (after_call s x) i ≡ lacks s i
  -- 17 comes above the share alone: with slots enough the patch would make more than the share
  pub above :
      (p : Patch) (room : ℕ) → resolve_in s i p room ≡ refused 17
      → (k : ScratchAllocator) × EndsWithSlots (s.formulas i).target (function_in s i) p (sorted (s.formulas i).target (function_in s i) p) (cache_in s i) k
      × ((s.formulas i).share < made_to s i k.cache.made)

-- with slots enough the patch would make no more than the share
abbrev pub ShareEnough : Frame → ℕ → Patch → Type 0
ShareEnough s i p =
    (k : ScratchAllocator) × EndsWithSlots (s.formulas i).target (function_in s i) p (sorted (s.formulas i).target (function_in s i) p) (cache_in s i) k
    × (made_to s i k.cache.made ≤ (s.formulas i).share)

-- "No order of the others' patches takes a promised slot away": in every frame that calls lead to, refused ones and askings included
abbrev pub Promised : Type 0
Promised =
    (limit : ℕ) (l : List Inlined) → open_refusal limit l ≡ none → (calls : List FrameCall) → Named (length l) calls
    → Kept (after_calls calls (opened limit l)) × ((i : ℕ) → i < length l → PromisedTo (after_calls calls (opened limit l)) i)

-- so what a patch needs within the share it gets, whatever the others called: no 17
abbrev pub WithinShare : Type 0
WithinShare =
    (limit : ℕ) (l : List Inlined) → open_refusal limit l ≡ none → (calls : List FrameCall) → Named (length l) calls → (i : ℕ) → i < length l
    → (p : Patch) (room : ℕ) → ShareEnough (after_calls calls (opened limit l)) i p → resolve_in (after_calls calls (opened limit l)) i p room ≡ refused 17 → ⊥

-- with 02 j: a share of "129 times the number of different slot sizes among its banks" ("With two, 130") meets no 17, whatever the others call
abbrev pub EnoughShare : Type 0
EnoughShare =
    (limit : ℕ) (l : List Inlined) → open_refusal limit l ≡ none → (calls : List FrameCall) → Named (length l) calls → (i : ℕ) → i < length l
    → (128 + (get_or l i no_formula).function.kept) * num_sizes (get_or l i no_formula).target (get_or l i no_formula).function ≤ (get_or l i no_formula).share
    → (x : Request) → answered_in (after_calls calls (opened limit l)) i x ≡ some (refused 17) → ⊥

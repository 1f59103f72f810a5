-- 02 l: demand 3 in a frame, and where the slots lie.
use Rattle.std.specs.Prelude.{ℕ, ◌+◌, ◌<◌, ◌≤◌, ◌≡◌, true, false, List, [], ◌∷◌, length}
use Rattle.std.proofs.Math.Option.{none}
use Rattle.entity.specs.Logic.{has, twice}
use Rattle.machine.specs.Claim.{Owed}
use Rattle.frame_rules.specs.Frame.{Inlined, open_refusal, first_slots, Frame, opened, standing_in, FrameCall, after_call, after_calls, Named}

-- call by call: what stands in the list of its formula is right by that formula's own target and function; its L is not read
-- of the formula's own list, but call by call among those of the others: they move the counter, and with it the slots that it gets
abbrev pub FrameClaim : List FrameCall → Frame → Type 0
FrameClaim [] s = Unit {0}
FrameClaim (x ∷ l) s =
    Owed (s.formulas x.formula).target (s.formulas x.formula).function (standing_in s x.formula x.request) × FrameClaim l (after_call s x)

-- "Demand 3 holds for each formula's own list, whatever slots the others make between its calls."
abbrev pub FrameDemand3 : Type 0
FrameDemand3 =
    (limit : ℕ) (l : List Inlined) → open_refusal limit l ≡ none → (calls : List FrameCall) → Named (length l) calls → FrameClaim calls (opened limit l)

-- each slot made lies in one stack of one formula, once, and nothing else does; n is the N of all
pub record FrameStacks (n : ℕ) (s : Frame) : Type 0 where
  pub listed : (x : ℕ) → n ≤ x → x < n + s.counter → (i : ℕ) × (i < s.number) × (z : ℕ) × (has x ((s.formulas i).stacks z) ≡ true)
  pub once : (i : ℕ) → i < s.number → (z : ℕ) → twice ((s.formulas i).stacks z) ≡ false
  pub sole :
      (x i j y z : ℕ) → i < s.number → j < s.number → has x ((s.formulas i).stacks y) ≡ true → has x ((s.formulas j).stacks z) ≡ true → (i ≡ j) × (y ≡ z)
  pub low : (x i z : ℕ) → i < s.number → has x ((s.formulas i).stacks z) ≡ true → n ≤ x
  pub below : (x i z : ℕ) → i < s.number → has x ((s.formulas i).stacks z) ≡ true → x < n + s.counter

-- "Slot numbers come from one counter."
abbrev pub FrameSlots : Type 0
FrameSlots =
    (limit : ℕ) (l : List Inlined) → open_refusal limit l ≡ none → (calls : List FrameCall) → Named (length l) calls
    → FrameStacks (first_slots l) (after_calls calls (opened limit l))

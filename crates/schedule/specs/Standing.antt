-- 02 l, a schedule: what stands of a formula between the calls.
use Rattle.std.specs.Prelude.{ℕ, ◌<◌, ◌≤◌, ◌≡◌, List, Option, None, Some}
use Rattle.function.specs.Known.{Checked}
use Rattle.function.specs.Table.{function_of}
use Rattle.machine.specs.Slots.{Stacked}
use Rattle.slots.specs.Stacks.{stamp_of, stamp_after, stacks_of}
use Rattle.frame_table.specs.Table.{number_of, counter_of, reach_of}
use Rattle.frame_calls.specs.declared.FramePreview.{FramePreview}
use Rattle.frame_calls.specs.Given.{InFrame}
use Rattle.frame_calls.specs.Answers.{CanTakeIn}

-- an answer that an asking left, when so many patches were settled as `mark` says: while its formula took and resolved nothing and the counter
-- stands, it can be taken
pub record Waits (start count : ℕ) (frame : List ℕ) (i : ℕ) (f cache slots : List ℕ) (a : FramePreview) : Type 0 where
  pub mark : ℕ
  pub stamp : a.stamp ≡ stamp_after start mark
  pub before : mark ≤ count
  pub counter : a.counter ≤ counter_of frame
  pub can : a.stamp ≡ stamp_of cache → a.counter ≡ counter_of frame → CanTakeIn frame i a slots cache × Stacked (function_of f) (record { stacks = stacks_of slots cache; made = a.to })

abbrev pub WaitsIf : (start count : ℕ) (frame : List ℕ) (i : ℕ) (f cache slots : List ℕ) → Option FramePreview → Type 0
WaitsIf start count frame i f cache slots None = Unit {0}
WaitsIf start count frame i f cache slots (Some a) = Waits start count frame i f cache slots a

-- the next call takes formula i's tables; so many calls were made at most, and settled `count` patches since the stamp was `start`
pub record Stands (frame : List ℕ) (i : ℕ) (t f cache slots : List ℕ) (left : Option FramePreview) (n : ℕ) : Type 0 where
  pub checked : Checked t f
  pub in_frame : InFrame frame f cache
  pub start : ℕ
  pub count : ℕ
  pub stamp : stamp_of cache ≡ stamp_after start count
  pub low : count ≤ n
  pub waits : WaitsIf start count frame i f cache slots left

-- the frame after a call of any formula, as far as the others depend on it
pub record FrameOn (frame frame' : List ℕ) : Type 0 where
  pub number : number_of frame' ≡ number_of frame
  pub low : counter_of frame ≤ counter_of frame'
  pub same : counter_of frame' ≡ counter_of frame → (i : ℕ) → i < number_of frame → reach_of frame' i ≡ reach_of frame i

-- what a take needs
abbrev pub CanTakeIf : (frame : List ℕ) (i : ℕ) → Option FramePreview → (slots cache : List ℕ) → Type 0
CanTakeIf frame i None slots cache = Unit {0}
CanTakeIf frame i (Some a) slots cache = a.stamp ≡ stamp_of cache → a.counter ≡ counter_of frame → CanTakeIn frame i a slots cache

-- 02 l: what a caller in another language is answered by a frame.
use Rattle.std.specs.Prelude.{ℕ, ◌≤◌, ◌≡◌, Bool, true, false, List, ◌++◌, map, ◌⊎◌, length, drop}
use Rattle.std.proofs.Math.Option.{Option, none, some}
use Rattle.entity.specs.Logic.{Anything}
use Rattle.reginfo.specs.Table.{reg_info_of}
use Rattle.function.specs.Known.{Checked}
use Rattle.function.specs.Table.{function_of}
use Rattle.rules.specs.Patch.{Answer, refused, resolved}
use Rattle.edit.specs.Word.{word_of, AllInRange}
use Rattle.slots.specs.Stacks.{cache_of, stamp_of, raised}
use Rattle.slots.specs.Steps.{Cleared, Committed}
use Rattle.number.specs.Read as read
use Rattle.number.specs.Read.{Read}
use Rattle.parallel_moves.specs.Answers.{Pending}
use Rattle.job_rules.specs.Job as job
use Rattle.frame_table.specs.Table.{counter_of, reach_of}
use Rattle.frame_table.specs.Opening.{Filled}
use Rattle.frame_table.specs.Steps.{WentOn, OneOpened}
use Rattle.frame_table.specs.Held.{FrameOk}
use Rattle.frame_calls.specs.declared.FramePreview.{FramePreview}
use Rattle.frame_calls.specs.Given.{InFrame, SlotsNoted}
use Rattle.frame_calls.specs.Answers.{preview_in}

-- `FrameAs` of crate frame, as a number
abbrev pub FrameBy : (limit : ℕ) (shares : List ℕ) → Option ℕ → (r : ℕ) (frame frame' : List ℕ) → Type 0
FrameBy limit shares (some k) r frame frame' = (r ≡ k) × (frame' ≡ frame)
FrameBy limit shares none r frame frame' = (r ≡ 0) × Filled limit shares frame'

-- the first one's N is noted, and that formula i is open
pub record FormulaNoted (frame : List ℕ) (i n : ℕ) (frame' : List ℕ) : Type 0 where
  pub noted : List ℕ
  pub slots : SlotsNoted frame i n noted
  pub one : OneOpened noted i frame'

-- `OpenedAs` of crate frame_calls, as a number
abbrev pub FormulaBy : (frame frame' : List ℕ) (i : ℕ) → Read job.Opened → (r : ℕ) (t f cache cache' : List ℕ) → Type 0
FormulaBy frame frame' i (read.refused k) r t f cache cache' = (r ≡ k) × Anything t × Anything f × (cache' ≡ cache) × (frame' ≡ frame)
FormulaBy frame frame' i (read.got x rest) r t f cache cache' =
    (r ≡ 0) × (reg_info_of t ≡ x.target) × (function_of f ≡ x.function) × Checked t f × Cleared cache cache' × InFrame frame' f cache' × FormulaNoted frame i x.function.slots frame' × FrameOk frame'

-- a formula that is not the next to be opened: 2, and nothing has changed
abbrev pub FormulaIf : Bool → (frame frame' : List ℕ) (i : ℕ) → Read job.Opened → (r : ℕ) (t t' f f' cache cache' : List ℕ) → Type 0
FormulaIf false frame frame' i x r t t' f f' cache cache' = (r ≡ 2) × (t' ≡ t) × (f' ≡ f) × (cache' ≡ cache) × (frame' ≡ frame)
FormulaIf true frame frame' i x r t t' f f' cache cache' = FormulaBy frame frame' i x r t' f' cache cache'

-- `GivesIn`, as a count and numbers
abbrev pub ResolvedBy : (frame frame' : List ℕ) (i : ℕ) (f : List ℕ) → Answer → (r refusal position position' : ℕ) (list list' cache cache' : List ℕ) → Type 0
ResolvedBy frame frame' i f (refused n) r refusal position position' list list' cache cache' = (r ≡ 0) × (refusal ≡ n) × (position' ≡ position) × (list' ≡ list) × (cache' ≡ cache) × (frame' ≡ frame)
ResolvedBy frame frame' i f (resolved es c n) r refusal position position' list list' cache cache' =
    (r ≡ length es) × (refusal ≡ 0) × (position' ≡ n) × (list' ≡ map word_of es ++ drop (length es) list) × AllInRange es × (cache_of cache' ≡ c)
    × (stamp_of cache' ≡ raised (stamp_of cache)) × WentOn frame i c.made frame' × FrameOk frame' × InFrame frame' f cache' × (counter_of frame ≤ c.made)

abbrev pub preview_of : (to made position stamp counter : ℕ) → FramePreview
preview_of to made position stamp counter = record { to = to; made = made; position = position; stamp = stamp; counter = counter }

-- `AsksIn`, as a count and numbers; where it is refused, those that would be taken stay as they were
abbrev pub AskedBy : (frame : List ℕ) (i : ℕ) (f : List ℕ) → Answer → (r refusal : ℕ) (a a' : FramePreview) (list list' cache slots' : List ℕ) → Type 0
AskedBy frame i f (refused n) r refusal a a' list list' cache slots' = (r ≡ 0) × (refusal ≡ n) × (a' ≡ a) × (list' ≡ list) × Anything slots'
AskedBy frame i f (resolved es c n) r refusal a a' list list' cache slots' =
    (r ≡ length es) × (refusal ≡ 0) × (a' ≡ preview_in frame i c n cache) × (list' ≡ map word_of es ++ drop (length es) list) × AllInRange es × Pending f (reach_of frame i) cache slots' c
    × (counter_of frame ≤ c.made)

-- `TakesIn`, as a number
pub record TakenBy (frame frame' : List ℕ) (i to stamp counter : ℕ) (slots cache : List ℕ) (r : ℕ) (cache' : List ℕ) : Type 0 where
  pub same : stamp ≡ stamp_of cache → counter ≡ counter_of frame → (r ≡ 0) × Committed slots cache cache' to × WentOn frame i to frame' × FrameOk frame'
  pub other : (stamp ≡ stamp_of cache → ⊥) ⊎ (counter ≡ counter_of frame → ⊥) → (r ≡ 20) × (cache' ≡ cache) × (frame' ≡ frame)

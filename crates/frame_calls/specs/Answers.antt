-- 02 l: what a call of a formula answers and leaves, held against the rules' answer.
use Rattle.std.specs.Prelude.{ℕ, ◌+◌, ◌-◌, ◌≤◌, ◌≡◌, List, ◌++◌, map, ◌⊎◌, length, drop}
use Rattle.std.proofs.Math.Option.{none, some}
use Rattle.entity.specs.Logic.{Anything}
use Rattle.reginfo.specs.Table.{reg_info_of}
use Rattle.function.specs.Table.{function_of}
use Rattle.rules.specs.Scratch.{Cache}
use Rattle.rules.specs.Patch.{Answer, refused, resolved}
use Rattle.rules.specs.Refusals.{with_limit}
use Rattle.edit.specs.Word.{word_of, AllInRange}
use Rattle.slots.specs.Stacks.{cache_of, stamp_of, raised}
use Rattle.slots.specs.Steps.{Committed}
use Rattle.parallel_moves.specs.declared.Resolved.{Resolved}
use Rattle.parallel_moves.specs.declared.asking.TakeAnswer as K
use Rattle.parallel_moves.specs.declared.asking.TakeAnswer.{TakeAnswer}
use Rattle.parallel_moves.specs.Given.{with_made}
use Rattle.parallel_moves.specs.Answers.{number_of, edits_in, position_in, CanTake, Pending}
use Rattle.calls.specs.Call.{call_of}
use Rattle.frame_table.specs.Table.{counter_of, made_of, reach_of}
use Rattle.frame_table.specs.Steps.{WentOn}
use Rattle.frame_table.specs.Held.{FrameOk}
use Rattle.frame_calls.specs.declared.FramePreview.{FramePreview}
use Rattle.frame_calls.specs.declared.FrameAsked as A
use Rattle.frame_calls.specs.declared.FrameAsked.{FrameAsked}
use Rattle.frame_calls.specs.Given.{InFrame}

-- what the rules answer to a call of formula i: the frame's counter and how far it may go stand for the function's slots made and L
abbrev pub answer_of : (frame : List ℕ) (i : ℕ) (t f free numbers : List ℕ) (room : ℕ) (cache : List ℕ) → Answer
answer_of frame i t f free numbers room cache =
    call_of (reg_info_of t) (with_limit (reg_info_of t) (function_of f) (reach_of frame i)) free numbers room (with_made (counter_of frame) (cache_of cache))

-- "a refused one unchanged"; else list, cache, position and stamp are as of a function alone, the slots made are formula i's, and the next call takes
-- the frame
abbrev pub GivesIn : (frame frame' : List ℕ) (i : ℕ) (f : List ℕ) → Answer → Resolved → (list list' cache cache' : List ℕ) → Type 0
GivesIn frame frame' i f (refused n) r list list' cache cache' = (number_of r ≡ some n) × (list' ≡ list) × (cache' ≡ cache) × (frame' ≡ frame)
GivesIn frame frame' i f (resolved es c n) r list list' cache cache' =
    (number_of r ≡ none) × (edits_in r ≡ length es) × (list' ≡ map word_of es ++ drop (length es) list) × AllInRange es × (cache_of cache' ≡ c) × (position_in r ≡ n)
    × (stamp_of cache' ≡ raised (stamp_of cache)) × WentOn frame i c.made frame' × FrameOk frame' × InFrame frame' f cache' × (counter_of frame ≤ c.made)

-- ---- 02 g in a frame
-- what an asking hands back beside the edits: of the slots made, the formula's own count is told
abbrev pub preview_in : (frame : List ℕ) (i : ℕ) → Cache → ℕ → (cache : List ℕ) → FramePreview
preview_in frame i c n cache =
    record { to = c.made; made = made_of frame i + (c.made - counter_of frame); position = n; stamp = stamp_of cache; counter = counter_of frame }

-- "A refused asking leaves nothing to take."
abbrev pub AsksIn : (frame : List ℕ) (i : ℕ) (f : List ℕ) → Answer → FrameAsked → (list list' cache slots' : List ℕ) → Type 0
AsksIn frame i f (refused n) r list list' cache slots' = (r ≡ A.TheVariants.Refused n) × (list' ≡ list) × Anything slots'
AsksIn frame i f (resolved es c n) r list list' cache slots' =
    (r ≡ A.TheVariants.Ready (length es) (preview_in frame i c n cache)) × (list' ≡ map word_of es ++ drop (length es) list) × AllInRange es × Pending f (reach_of frame i) cache slots' c
    × (counter_of frame ≤ c.made)

-- what a take needs where stamp and counter are as at the asking
pub record CanTakeIn (frame : List ℕ) (i : ℕ) (a : FramePreview) (slots cache : List ℕ) : Type 0 where
  pub can : CanTake slots cache
  pub on : counter_of frame ≤ a.to
  pub within : a.to ≤ reach_of frame i

-- 20 "also where another formula made a slot since the asking"
pub record TakesIn (frame frame' : List ℕ) (i : ℕ) (a : FramePreview) (slots cache : List ℕ) (r : TakeAnswer) (cache' : List ℕ) : Type 0 where
  pub same : a.stamp ≡ stamp_of cache → a.counter ≡ counter_of frame → (r ≡ K.TheVariants.Yes) × Committed slots cache cache' a.to × WentOn frame i a.to frame' × FrameOk frame'
  pub other : (a.stamp ≡ stamp_of cache → ⊥) ⊎ (a.counter ≡ counter_of frame → ⊥) → (r ≡ K.TheVariants.Refused 20) × (cache' ≡ cache) × (frame' ≡ frame)

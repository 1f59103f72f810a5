-- 02 l, a schedule: what a call is answered, as text, and what it leaves.
use Rattle.std.specs.Prelude.{ℕ, ◌+◌, ◌-◌, ◌<◌, ◌≤◌, ◌≡◌, Bool, true, false, List, [], ◌∷◌, eqb, length, drop, Option, None, Some}
use Rattle.entity.specs.Logic.{and}
use Rattle.rules.specs.Patch.{Answer, refused, resolved}
use Rattle.number.specs.Read as read
use Rattle.slots.specs.Stacks.{cache_of, stamp_of, raised}
use Rattle.slots.specs.Steps.{Committed}
use Rattle.parallel_moves.specs.Answers.{Pending}
use Rattle.print.specs.Text.{patch_text, refused_line}
use Rattle.print.specs.Put.{Put}
use Rattle.frame_table.specs.Table.{counter_of, made_of, reach_of}
use Rattle.frame_table.specs.Steps.{WentOn}
use Rattle.frame_table.specs.Held.{FrameOk}
use Rattle.frame_calls.specs.declared.FramePreview.{FramePreview}
use Rattle.frame_calls.specs.Given.{InFrame}
use Rattle.frame_calls.specs.Answers.{answer_of, preview_in}
use Rattle.schedule.specs.Lists.{Given, Called, resolves, asks, takes}

-- as `resolve` prints the only patch of a job, or its refusal; of the slots made, the formula's own count is told
abbrev pub text_in : (frame : List ℕ) (i : ℕ) → Answer → List ℕ
text_in frame i (refused n) = refused_line n
text_in frame i (resolved es c n) = patch_text 1 es (made_of frame i + (c.made - counter_of frame))

-- what a patch that is resolved makes of the frame and of its formula's cache
abbrev pub MovedBy : (frame frame' : List ℕ) (i : ℕ) (f : List ℕ) → Answer → (cache cache' : List ℕ) → Type 0
MovedBy frame frame' i f (refused n) cache cache' = (cache' ≡ cache) × (frame' ≡ frame)
MovedBy frame frame' i f (resolved es c n) cache cache' =
    (cache_of cache' ≡ c) × (stamp_of cache' ≡ raised (stamp_of cache)) × WentOn frame i c.made frame' × FrameOk frame' × InFrame frame' f cache' × (counter_of frame ≤ c.made)

-- what an asking leaves to take
abbrev pub LeftBy : (frame : List ℕ) (i : ℕ) (f : List ℕ) → Answer → (cache slots : List ℕ) → Option FramePreview → Type 0
LeftBy frame i f (refused n) cache slots left = left ≡ None
LeftBy frame i f (resolved es c n) cache slots left = (left ≡ Some (preview_in frame i c n cache)) × Pending f (reach_of frame i) cache slots c × (counter_of frame ≤ c.made)

-- whether it can still be taken
abbrev pub is_fresh : (frame cache : List ℕ) → Option FramePreview → Bool
is_fresh frame cache None = false
is_fresh frame cache (Some a) = and (eqb a.stamp (stamp_of cache)) (eqb a.counter (counter_of frame))

-- where the counter is then
abbrev pub to_of : Option FramePreview → ℕ
to_of None = 0
to_of (Some a) = a.to

-- the line `taken`, or that of 20; where no asking left an answer there is nothing to take, and that is said
abbrev pub taken_text : Option FramePreview → Bool → List ℕ
taken_text None fresh = 110 ∷ 111 ∷ 116 ∷ 104 ∷ 105 ∷ 110 ∷ 103 ∷ 32 ∷ 116 ∷ 111 ∷ 32 ∷ 116 ∷ 97 ∷ 107 ∷ 101 ∷ 10 ∷ []
taken_text (Some a) true = 116 ∷ 97 ∷ 107 ∷ 101 ∷ 110 ∷ 10 ∷ []
taken_text (Some a) false = refused_line 20

abbrev pub TakenBy : Bool → (frame frame' : List ℕ) (i to : ℕ) (slots cache cache' : List ℕ) → Type 0
TakenBy true frame frame' i to slots cache cache' = Committed slots cache cache' to × WentOn frame i to frame' × FrameOk frame'
TakenBy false frame frame' i to slots cache cache' = (cache' ≡ cache) × (frame' ≡ frame)

module _ (frame frame' : List ℕ) (i : ℕ) (t f cache cache' slots slots' : List ℕ) (left left' : Option FramePreview) (out out' : List ℕ) (len : ℕ) where
  -- the rules' answer to a patch, with a list of 1,024 words lent
  abbrev pub answer_to : Given → Answer
  answer_to p = answer_of frame i t f p.free p.numbers 1024 cache

  abbrev pub Did : Called → Type 0
  Did (resolves p) = Put out out' 0 (text_in frame i (answer_to p)) len × MovedBy frame frame' i f (answer_to p) cache cache' × (slots' ≡ slots) × (left' ≡ left)
  Did (asks p) = Put out out' 0 (text_in frame i (answer_to p)) len × LeftBy frame i f (answer_to p) cache slots' left' × (cache' ≡ cache) × (frame' ≡ frame)
  Did takes =
      Put out out' 0 (taken_text left (is_fresh frame cache left)) len × TakenBy (is_fresh frame cache left) frame frame' i (to_of left) slots cache cache' × (slots' ≡ slots) × (left' ≡ left)

  -- what is no call changes nothing, its line is that of its refusal, and the schedule ends with it
  abbrev pub AnsweredAs : (s : List ℕ) (at at' : ℕ) → read.Read Called → Type 0
  AnsweredAs s at at' (read.got x rest) = Did x × (drop at' s ≡ rest) × (at < at') × (at' ≤ length s)
  AnsweredAs s at at' (read.refused k) =
      Put out out' 0 (refused_line k) len × (frame' ≡ frame) × (cache' ≡ cache) × (slots' ≡ slots) × (left' ≡ left) × (at' ≡ length s)

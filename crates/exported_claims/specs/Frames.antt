-- 02 l of what C and Rust call: a frame opened by `parallel_moves_frame_open`, its formulas by `parallel_moves_frame_formula`, then any list of
-- `parallel_moves_frame_resolve`, `_resolve_groups`, `_ask` and `_take`; each did as its contract says.
use Rattle.std.specs.Prelude.{ℕ, suc, ◌<◌, ◌≡◌, Bool, true, false, List, [], ◌∷◌, map, eqb, length, get_or}
use Rattle.std.proofs.Math.Option.{Option, none, some}
use Rattle.reginfo.specs.Refused.{first_of}
use Rattle.slots.specs.Stacks.{stamp_of}
use Rattle.parallel_moves.specs.declared.Resolved as R
use Rattle.parallel_moves.specs.declared.Resolved.{Resolved}
use Rattle.parallel_moves.specs.declared.asking.TakeAnswer as K
use Rattle.parallel_moves.specs.declared.asking.TakeAnswer.{TakeAnswer}
use Rattle.frame_table.specs.Table.{number_of, counter_of, opens_next}
use Rattle.frame_table.specs.Opening.{share_conditions}
use Rattle.frame_table.specs.Held.{FrameOk}
use Rattle.frame_calls.specs.declared.FramePreview.{FramePreview}
use Rattle.frame_calls.specs.declared.FrameAsked as A
use Rattle.frame_calls.specs.declared.FrameAsked.{FrameAsked}
use Rattle.frame_calls.specs.Given.{opened_in}
use Rattle.frame_calls.specs.Answers.{answer_of, CanTakeIn}
use Rattle.frame_groups.specs.Answer.{groups_answer}
use Rattle.frame_c.specs.Called.{FrameBy, FormulaIf, ResolvedBy, AskedBy, TakenBy, preview_of}
use Rattle.frame_claim.specs.Claim as claim
use Rattle.frame_claim.specs.Claim.{State, Left}
use Rattle.frame_claim.specs.Opening as opening
use Rattle.frame_claim.specs.Opening.{Opening}

-- ---- the calls
-- what each was given beside frame, tables and cache, and what it set, answered and left; a take is passed what the n-th asking of its formula left
pub data Kind : Type 0 where
  resolves : (free numbers list : List ℕ) → (position count refusal position' : ℕ) → (after : List ℕ) → Kind
  groups : (free numbers list : List ℕ) → (position count refusal position' : ℕ) → (after : List ℕ) → Kind
  asks : (free numbers list : List ℕ) → (before : FramePreview) → (count refusal : ℕ) → (left : FramePreview) → (after slots : List ℕ) → Kind
  takes : (n answer : ℕ) → Kind

pub record Made : Type 0 where
  pub formula : ℕ
  pub kind : Kind
  pub frame : List ℕ
  pub cache : List ℕ

-- what the numbers that were set say, as an answer of Rattle's own calls: 0 is no refusal, and any other number is one
abbrev pub resolved_if : Bool → (count refusal position' : ℕ) → Resolved
resolved_if true count refusal position' = R.TheVariants.Edits count position'
resolved_if false count refusal position' = R.TheVariants.Refused refusal

abbrev pub asked_if : Bool → (count refusal : ℕ) → FramePreview → FrameAsked
asked_if true count refusal left = A.TheVariants.Ready count left
asked_if false count refusal left = A.TheVariants.Refused refusal

abbrev pub taken_if : Bool → ℕ → TakeAnswer
taken_if true answer = K.TheVariants.Yes
taken_if false answer = K.TheVariants.Refused answer

abbrev pub kind_said : Kind → claim.Kind
kind_said (resolves free numbers list position count refusal position' after) = claim.resolves free numbers list (resolved_if (eqb refusal 0) count refusal position') after
kind_said (groups free numbers list position count refusal position' after) = claim.groups free numbers list (resolved_if (eqb refusal 0) count refusal position') after
kind_said (asks free numbers list before count refusal left after slots) = claim.asks free numbers list (asked_if (eqb refusal 0) count refusal left) after slots
kind_said (takes n answer) = claim.takes n (taken_if (eqb answer 0) answer)

abbrev pub said_of : Made → claim.Made
said_of x = record { formula = x.formula; kind = kind_said x.kind; frame = x.frame; cache = x.cache }

abbrev pub said : List Made → List claim.Made
said l = map said_of l

-- ---- t and f are the formulas' tables
module _ (t f : ℕ → List ℕ) where
  -- of what an asking left; of a refused one there is nothing to pass, and no call is made
  abbrev pub TookAs : State → ℕ → Option Left → (answer : ℕ) (frame cache : List ℕ) → Type 0
  TookAs k i none answer frame cache = (frame ≡ k.frame) × (cache ≡ k.cache i)
  TookAs k i (some a) answer frame cache =
      FrameOk k.frame → i < number_of k.frame
      → (a.preview.stamp ≡ stamp_of (k.cache i) → a.preview.counter ≡ counter_of k.frame
      → CanTakeIn k.frame i (preview_of a.preview.to 0 0 a.preview.stamp a.preview.counter) a.slots (k.cache i))
      → TakenBy k.frame frame i a.preview.to a.preview.stamp a.preview.counter a.slots (k.cache i) answer cache

  abbrev pub DidAs : State → ℕ → Kind → (frame cache : List ℕ) → Type 0
  DidAs k i (resolves free numbers list position count refusal position' after) frame cache =
      claim.Taken t f k i
      → ResolvedBy k.frame frame i (f i) (answer_of k.frame i (t i) (f i) free numbers (length list) (k.cache i)) count refusal position position' list after (k.cache i) cache
  DidAs k i (groups free numbers list position count refusal position' after) frame cache =
      claim.Taken t f k i
      → ResolvedBy k.frame frame i (f i) (groups_answer k.frame i (t i) (f i) free numbers (length list) (k.cache i)) count refusal position position' list after (k.cache i) cache
  DidAs k i (asks free numbers list before count refusal left after slots) frame cache =
      claim.Taken t f k i
      → AskedBy k.frame i (f i) (answer_of k.frame i (t i) (f i) free numbers (length list) (k.cache i)) count refusal before left list after (k.cache i) slots
      × (frame ≡ k.frame) × (cache ≡ k.cache i)
  DidAs k i (takes n answer) frame cache = TookAs k i (get_or (k.asked i) n none) answer frame cache

  -- each gets frame and cache as the last one left them
  abbrev pub Called : List Made → State → Type 0
  Called [] k = Unit {0}
  Called (x ∷ l) k = DidAs k x.formula x.kind x.frame x.cache × Called l (claim.after t f k (said_of x))

-- ---- the openings
-- each formula from i on was opened and 0 was answered, over the frame as the last one left it; what the tables held before is any
abbrev pub OpenedFrom : ℕ → List ℕ → List Opening → Type 0
OpenedFrom i frame [] = Unit {0}
OpenedFrom i frame (x ∷ l) =
    (FrameOk frame → (t f : List ℕ)
    × FormulaIf (opens_next frame i) frame x.frame i (opened_in frame i x.kept x.job) 0 t x.target f x.function x.before x.cache)
    × OpenedFrom (suc i) x.frame l

abbrev pub shares_of : List Opening → List ℕ
shares_of l = map (λ (x : Opening). x.share) l

-- the frame was opened for these shares, then the formulas in order
pub record OpenedAll (limit : ℕ) (before frame : List ℕ) (l : List Opening) : Type 0 where
  pub opens : FrameBy limit (shares_of l) (first_of (share_conditions limit (shares_of l))) 0 before frame
  pub formulas : OpenedFrom 0 frame l

-- ---- of every list of calls after such openings all that `frame_claim` claims of Rattle's own holds: acceptance, edits and caches by the rules,
-- demand 3 of each formula's own list, promises kept, slots in one stack once, takes as 02 g and l say, independence
abbrev pub SharedFrame : Type 0
SharedFrame =
    (limit : ℕ) (before frame : List ℕ) (l : List Opening) → OpenedAll limit before frame l
    → (made : List Made) → claim.Named (opening.targets_of l) (opening.functions_of l) (length l) (said made)
    → Called (opening.targets_of l) (opening.functions_of l) made (claim.begun (opening.targets_of l) (opening.functions_of l) (opening.frame_after frame l) (opening.caches_of l))
    → claim.Shared (opening.targets_of l) (opening.functions_of l) limit (opening.formulas_of l) (opening.frame_after frame l) (opening.caches_of l) (said made)

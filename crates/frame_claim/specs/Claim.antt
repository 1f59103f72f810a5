-- 02 l of the code: one claim about a whole list of calls of formulas that share a frame, by `resolve_in`, `resolve_groups_in` (02 k), `ask_in` and
-- `take_in`. What they answer and leave is what crate group_rules says, so all that it shows of every list of such calls holds of these.
use Rattle.std.specs.Prelude.{ℕ, ◌<◌, ◌≡◌, Bool, true, false, List, [], ◌∷◌, ◌++◌, map, length, drop, get_or}
use Rattle.std.proofs.Math.Option.{Option, none, some}
use Rattle.entity.specs.Logic.{any_in}
use Rattle.reginfo.specs.Table.{reg_info_of}
use Rattle.function.specs.Known.{Checked}
use Rattle.function.specs.Table.{function_of}
use Rattle.rules.specs.Edit.{updated}
use Rattle.rules.specs.Patch.{Answer, refused, resolved, unless_refused}
use Rattle.rules.specs.Take.{resolving, asking, taking}
use Rattle.edit.specs.Word.{word_of, AllInRange}
use Rattle.slots.specs.Stacks.{cache_of, stamp_of}
use Rattle.slots.specs.Steps.{Fresh}
use Rattle.parallel_moves.specs.declared.Resolved.{Resolved}
use Rattle.parallel_moves.specs.declared.asking.TakeAnswer as K
use Rattle.parallel_moves.specs.declared.asking.TakeAnswer.{TakeAnswer}
use Rattle.parallel_moves.specs.Answers as told
use Rattle.calls.specs.Call.{free_refusal, patch_of}
use Rattle.frame_rules.specs.Frame.{Inlined, no_formula, open_refusal, first_slots, Frame, opened, resolve_in, made_to}
use Rattle.frame_rules.specs.Promise.{Kept}
use Rattle.frame_rules.specs.Claim.{FrameStacks}
use Rattle.group_rules.specs.Requests.{Request, single, grouping}
use Rattle.group_rules.specs.Frame.{groups_in, answered_in, FrameCall, after_call, after_calls, FrameClaim, PromisedToGroups}
use Rattle.group_rules.specs.FrameTakes.{settled_by, TakesAnswered}
use Rattle.group_rules.specs.Renamed.{Alike}
use Rattle.frame_table.specs.Table.{number_of, counter_of, made_of}
use Rattle.frame_table.specs.Held.{Holds, FrameOk}
use Rattle.frame_calls.specs.declared.FramePreview.{FramePreview}
use Rattle.frame_calls.specs.declared.FrameAsked as A
use Rattle.frame_calls.specs.declared.FrameAsked.{FrameAsked}
use Rattle.frame_calls.specs.Given.{InFrame}
use Rattle.frame_calls.specs.Answers.{answer_of, GivesIn, AsksIn, CanTakeIn, TakesIn}
use Rattle.frame_groups.specs.Answer.{groups_answer}

-- what an asking left to take: what it handed back, and the table of slots that it wrote
pub record Left : Type 0 where
  pub preview : FramePreview
  pub slots : List ℕ

-- the tables as the calls left them: the frame's, each formula's cache, and of each formula what its askings left; none: refused
pub record State : Type 0 where
  pub frame : List ℕ
  pub cache : ℕ → List ℕ
  pub asked : ℕ → List (Option Left)

-- a call that was made: what it was given beside frame and cache, and what it answered and left; one by groups is given and answers what one of
-- `resolve_in` does; a take is passed what the n-th asking of its formula left
pub data Kind : Type 0 where
  resolves : (free numbers list : List ℕ) → Resolved → (after : List ℕ) → Kind
  groups : (free numbers list : List ℕ) → Resolved → (after : List ℕ) → Kind
  asks : (free numbers list : List ℕ) → FrameAsked → (after slots : List ℕ) → Kind
  takes : (n : ℕ) → TakeAnswer → Kind

pub record Made : Type 0 where
  pub formula : ℕ
  pub kind : Kind
  pub frame : List ℕ
  pub cache : List ℕ

abbrev pub takes_one : Kind → Bool
takes_one (resolves free numbers list r after) = false
takes_one (groups free numbers list r after) = false
takes_one (asks free numbers list r after slots) = false
takes_one (takes n r) = true

abbrev pub is_take : Made → Bool
is_take x = takes_one x.kind

abbrev pub left_by : FrameAsked → List ℕ → Option Left
left_by (A.TheVariants.Ready n a) slots = some (record { preview = a; slots = slots })
left_by (A.TheVariants.Refused n) slots = none

-- a call whose free units are refused is none of the rules'
-- The rules have free units as a set; a list that does not rise is no set, and is refused before they are asked.
abbrev pub if_free : Option ℕ → Request → Option Request
if_free none x = some x
if_free (some n) x = none

abbrev pub asked_if : Option ℕ → List (Option Left) → Option Left → List (Option Left)
asked_if none l x = l ++ (x ∷ [])
asked_if (some n) l x = l

-- ---- t and f are the formulas' tables
module _ (t f : ℕ → List ℕ) where
  abbrev pub free_in : ℕ → List ℕ → Option ℕ
  free_in i free = free_refusal (reg_info_of (t i)).units free

  abbrev pub request_of : ℕ → Kind → Option Request
  request_of i (resolves free numbers list r after) = if_free (free_in i free) (single (resolving (patch_of free numbers) (length list)))
  request_of i (groups free numbers list r after) = if_free (free_in i free) (grouping (patch_of free numbers) (length list))
  request_of i (asks free numbers list r after slots) = if_free (free_in i free) (single (asking (patch_of free numbers) (length list)))
  request_of i (takes n r) = some (single (taking n))

  abbrev pub asked_after : ℕ → Kind → List (Option Left) → List (Option Left)
  asked_after i (resolves free numbers list r after) l = l
  asked_after i (groups free numbers list r after) l = l
  asked_after i (asks free numbers list r after slots) l = asked_if (free_in i free) l (left_by r slots)
  asked_after i (takes n r) l = l

  abbrev pub after : State → Made → State
  after k x =
      record { frame = x.frame; cache = updated x.formula x.cache k.cache; asked = updated x.formula (asked_after x.formula x.kind (k.asked x.formula)) k.asked }

  -- each call did as its contract says, of tables that the contract takes; "Each call gets it and the counts made as the last one left them"
  abbrev pub Taken : State → ℕ → Type 0
  Taken k i = Checked (t i) (f i) × FrameOk k.frame × (i < number_of k.frame) × InFrame k.frame (f i) (k.cache i)

  abbrev pub TookAs : State → ℕ → Option Left → TakeAnswer → (frame cache : List ℕ) → Type 0
  TookAs k i none r frame cache = (frame ≡ k.frame) × (cache ≡ k.cache i)
  TookAs k i (some a) r frame cache =
      FrameOk k.frame → i < number_of k.frame
      → (a.preview.stamp ≡ stamp_of (k.cache i) → a.preview.counter ≡ counter_of k.frame → CanTakeIn k.frame i a.preview a.slots (k.cache i))
      → TakesIn k.frame frame i a.preview a.slots (k.cache i) r cache

  abbrev pub DidAs : State → ℕ → Kind → (frame cache : List ℕ) → Type 0
  DidAs k i (resolves free numbers list r after) frame cache =
      Taken k i → GivesIn k.frame frame i (f i) (answer_of k.frame i (t i) (f i) free numbers (length list) (k.cache i)) r list after (k.cache i) cache
  DidAs k i (groups free numbers list r after) frame cache =
      Taken k i → GivesIn k.frame frame i (f i) (groups_answer k.frame i (t i) (f i) free numbers (length list) (k.cache i)) r list after (k.cache i) cache
  DidAs k i (asks free numbers list r after slots) frame cache =
      Taken k i
      → AsksIn k.frame i (f i) (answer_of k.frame i (t i) (f i) free numbers (length list) (k.cache i)) r list after (k.cache i) slots × (frame ≡ k.frame) × (cache ≡ k.cache i)
  DidAs k i (takes n r) frame cache = TookAs k i (get_or (k.asked i) n none) r frame cache

  abbrev pub Called : List Made → State → Type 0
  Called [] k = Unit {0}
  Called (x ∷ l) k = DidAs k x.formula x.kind x.frame x.cache × Called l (after k x)

  -- ---- what they answered, by the rules: list, position and a formula's own count of slots made; a refused call changed nothing
  module _ (k : State) (s : Frame) (i : ℕ) (frame cache : List ℕ) where
    abbrev pub Resolves : Answer → Resolved → (list after : List ℕ) → Type 0
    Resolves (refused n) r list after = (told.number_of r ≡ some n) × (after ≡ list) × (frame ≡ k.frame) × (cache ≡ k.cache i)
    Resolves (resolved es c n) r list after =
        (told.number_of r ≡ none) × (told.edits_in r ≡ length es) × (after ≡ map word_of es ++ drop (length es) list) × AllInRange es × (told.position_in r ≡ n) × (made_of frame i ≡ made_to s i c.made)

    abbrev pub Shows : Answer → FrameAsked → (list after : List ℕ) → Type 0
    Shows (refused n) r list after = (r ≡ A.TheVariants.Refused n) × (after ≡ list) × (frame ≡ k.frame) × (cache ≡ k.cache i)
    Shows (resolved es c n) r list after =
        ((a : FramePreview) × (r ≡ A.TheVariants.Ready (length es) a) × (a.made ≡ made_to s i c.made) × (a.position ≡ n)) × (after ≡ map word_of es ++ drop (length es) list) × AllInRange es
        × (frame ≡ k.frame) × (cache ≡ k.cache i)

    -- a take whose asking was refused has nothing to pass
    abbrev pub Takes : Option Answer → TakeAnswer → Type 0
    Takes none r = (frame ≡ k.frame) × (cache ≡ k.cache i)
    Takes (some (refused n)) r = (r ≡ K.TheVariants.Refused n) × (frame ≡ k.frame) × (cache ≡ k.cache i)
    Takes (some (resolved es c n)) r = (r ≡ K.TheVariants.Yes) × (made_of frame i ≡ made_to s i c.made)

    abbrev pub Outcome : Kind → Type 0
    Outcome (resolves free numbers list r after) = Resolves (unless_refused (free_in i free) (resolve_in s i (patch_of free numbers) (length list))) r list after
    Outcome (groups free numbers list r after) = Resolves (unless_refused (free_in i free) (groups_in s i (patch_of free numbers) (length list))) r list after
    Outcome (asks free numbers list r after slots) = Shows (unless_refused (free_in i free) (resolve_in s i (patch_of free numbers) (length list))) r list after
    Outcome (takes n r) = Takes (answered_in s i (single (taking n))) r

  -- the tables hold the frame of the rules, each formula's stacks, and the next call takes them
  pub record Same (k : State) (s : Frame) : Type 0 where
    pub holds : Holds k.frame s
    pub stacks : (i : ℕ) → i < s.number → (cache_of (k.cache i)).stacks ≡ (s.formulas i).stacks
    pub ok : FrameOk k.frame
    pub taken : (i : ℕ) → i < s.number → InFrame k.frame (f i) (k.cache i)

  abbrev pub ruled_by : Option Request → ℕ → Frame → Frame
  ruled_by none i s = s
  ruled_by (some x) i s = after_call s (record { formula = i; request = x })

  abbrev pub ruled_after : Frame → Made → Frame
  ruled_after s x = ruled_by (request_of x.formula x.kind) x.formula s

  abbrev pub Claim : List Made → State → Frame → Type 0
  Claim [] k s = Unit {0}
  Claim (x ∷ l) k s = Outcome k s x.formula x.frame x.cache x.kind × Same (after k x) (ruled_after s x) × Claim l (after k x) (ruled_after s x)

  -- the rules' calls
  abbrev pub call_if : Option Request → ℕ → List FrameCall → List FrameCall
  call_if none i l = l
  call_if (some x) i l = record { formula = i; request = x } ∷ l

  abbrev pub calls_of : List Made → List FrameCall
  calls_of [] = []
  calls_of (x ∷ l) = call_if (request_of x.formula x.kind) x.formula (calls_of l)

  abbrev pub Named : ℕ → List Made → Type 0
  Named n [] = Unit {0}
  Named n (x ∷ l) = (x.formula < n) × Named n l

  -- a frame that was opened with the formulas l, each with its tables and a fresh cache, whose stamp is any
  pub record Begun (limit : ℕ) (l : List Inlined) (frame : List ℕ) (cache : ℕ → List ℕ) : Type 0 where
    pub opens : open_refusal limit l ≡ none
    pub holds : Holds frame (opened limit l)
    pub ok : FrameOk frame
    pub target : (i : ℕ) → i < length l → (get_or l i no_formula).target ≡ reg_info_of (t i)
    pub function : (i : ℕ) → i < length l → (get_or l i no_formula).function ≡ function_of (f i)
    pub checked : (i : ℕ) → i < length l → Checked (t i) (f i)
    pub fresh : (i : ℕ) → i < length l → Fresh (cache i)

  -- "while fewer than 2^64 patches have been taken or resolved on that cache"
  abbrev pub FewPatches : (limit : ℕ) (l : List Inlined) (calls : List Made) → Type 0
  FewPatches limit l calls = (i : ℕ) → i < length l → settled_by i (calls_of calls) (opened limit l) < 18446744073709551616

  -- asked for where a take stands among the calls, and nowhere else
  abbrev pub FewIfTaken : (limit : ℕ) (l : List Inlined) (calls : List Made) → Type 0
  FewIfTaken limit l calls = any_in is_take calls ≡ true → FewPatches limit l calls

  abbrev pub begun : (frame : List ℕ) (cache : ℕ → List ℕ) → State
  begun frame cache = record { frame = frame; cache = cache; asked = λ i. [] }

  -- answers, edits and caches are those of the rules, takes while patches are few; demand 3 of each formula's own list; every promise is kept; each
  -- slot made lies in one stack of one formula, once; takes are answered as 02 g and l say; and until its first such 20, or 17 above its share, a
  -- formula gets the same whatever the others call, but for slot numbers. Said of the same calls in one record, so that none of it holds of a frame for
  -- which another does not.
  pub record Shared (limit : ℕ) (l : List Inlined) (frame : List ℕ) (cache : ℕ → List ℕ) (calls : List Made) : Type 0 where
    pub claim : FewIfTaken limit l calls → Claim calls (begun frame cache) (opened limit l)
    pub demand-3 : FrameClaim (calls_of calls) (opened limit l)
    pub kept : Kept (after_calls (calls_of calls) (opened limit l))
    pub promised : (i : ℕ) → i < length l → PromisedToGroups (after_calls (calls_of calls) (opened limit l)) i
    pub slots : FrameStacks (first_slots l) (after_calls (calls_of calls) (opened limit l))
    pub takes-answered : TakesAnswered limit l (calls_of calls)
    pub independent : (i : ℕ) → i < length l → Alike (first_slots l) i (calls_of calls) (opened limit l) (opened limit l) (λ y. y)

-- over every list of calls of a frame that was opened
abbrev pub SharedFrame : Type 0
SharedFrame =
    (t f : ℕ → List ℕ) (limit : ℕ) (l : List Inlined) (frame : List ℕ) (cache : ℕ → List ℕ) → Begun t f limit l frame cache
    → (calls : List Made) → Named t f (length l) calls → Called t f calls (begun t f frame cache)
    → Shared t f limit l frame cache calls

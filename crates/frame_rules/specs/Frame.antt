-- 02 l, functions sharing a frame: what the frame is, when a formula may make a slot, and what each call is answered.
use Rattle.std.specs.Prelude.{ℕ, ◌+◌, ◌-◌, ◌<◌, Bool, List, [], ◌∷◌, ◌++◌, eqb, ltb, length, get_or}
use Rattle.std.proofs.Math.Option.{Option, none, some}
use Rattle.entity.specs.Logic.{pick, or, no}
use Rattle.reginfo.specs.RegInfo.{RegInfo}
use Rattle.reginfo.specs.Refused.{Condition, refused_if, or_else, first_of, target_refusal}
use Rattle.function.specs.Function.{Function, is_setting}
use Rattle.function.specs.Refused.{function_refusal}
use Rattle.rules.specs.Edit.{Edit, updated}
use Rattle.rules.specs.Scratch.{Cache}
use Rattle.rules.specs.Counts.{sum}
use Rattle.rules.specs.Patch.{Patch, Answer, refused, resolved, resolve}
use Rattle.rules.specs.Refusals.{with_limit}
use Rattle.rules.specs.Take.{Counted, Preview, Request, resolving, asking, taking, take_answer, preview_of, Standing, answer_in, stamped_by}

-- ---- opening a frame
-- a formula as it is given: its job's target and function, and "a promised share, given beside its job, in place of L, which is read but not
-- used"
pub record Inlined : Type 0 where
  pub target : RegInfo
  pub function : Function
  pub share : ℕ

unfoldable pub total : List Inlined → ℕ
total [] = 0
total (x ∷ l) = x.share + total l

-- "We inline 1 to 16 formulas into one frame with a common limit of 0 to 2,048 slots (else 2 for either, tested first)"; "shares add up to at
-- most the limit"; "23, shares above the limit, tested next, before the first job's setting"
unfoldable pub frame_conditions : ℕ → List Inlined → List Condition
frame_conditions limit l = refused_if 2 (or (eqb (length l) 0) (ltb 16 (length l))) ∷ refused_if 2 (ltb 2048 limit) ∷ refused_if 23 (ltb limit (total l)) ∷ []

abbrev pub or_given : Option ℕ → Option ℕ → Option ℕ
or_given (some n) o = some n
or_given none o = o

-- of one formula: its setting (22), its target, "the first one's N (else 2, when that N is read)", and the rest of its function
unfoldable pub formula_refusal : ℕ → Inlined → Option ℕ
formula_refusal n x =
    or_else (no (is_setting x.function.kept)) 22
    (or_given (target_refusal x.target) (or_else (no (eqb x.function.slots n)) 2 (function_refusal x.target x.function)))

unfoldable pub formulas_refusal : ℕ → List Inlined → Option ℕ
formulas_refusal n [] = none
formulas_refusal n (x ∷ l) = or_given (formula_refusal n x) (formulas_refusal n l)

-- the first one's N
unfoldable pub first_slots : List Inlined → ℕ
first_slots [] = 0
first_slots (x ∷ l) = x.function.slots

unfoldable pub open_refusal : ℕ → List Inlined → Option ℕ
open_refusal limit l = or_given (first_of (frame_conditions limit l)) (formulas_refusal (first_slots l) l)

-- ---- the frame
-- an answer to take (02 g), and the counter at the asking
-- the counter, since the answer names slots by it: if another formula has made one since, that number is taken
pub record Asked : Type 0 where
  pub preview : Preview
  pub counter : ℕ

-- "Each has its own cache and a promised share": its stacks, how many slots it made, how many patches it took or resolved, and the answers of
-- its askings
pub record Formula : Type 0 where
  pub target : RegInfo
  pub function : Function
  pub share : ℕ
  pub stacks : ℕ → List ℕ
  pub made : ℕ
  pub count : ℕ
  pub asked : List (Option Asked)

-- "Slot numbers come from one counter."
-- One counter, since all formulas have one N: a number of its own for each would name one slot of the frame twice.
pub record Frame : Type 0 where
  pub limit : ℕ
  pub number : ℕ
  pub counter : ℕ
  pub formulas : ℕ → Formula

abbrev pub no_function : Function
no_function = record { values = []; slots = 0; limit = 0; kept = 1 }

abbrev pub no_target : RegInfo
no_target = record { units = 0; banks = []; regs = []; classes = [] }

abbrev pub no_formula : Inlined
no_formula = record { target = no_target; function = no_function; share = 0 }

abbrev pub begun : Inlined → Formula
begun x = record { target = x.target; function = x.function; share = x.share; stacks = λ z. []; made = 0; count = 0; asked = [] }

abbrev pub opened : ℕ → List Inlined → Frame
opened limit l = record { limit = limit; number = length l; counter = 0; formulas = λ i. begun (get_or l i no_formula) }

-- ---- who may make a slot
-- what a formula still lacks of its share
abbrev pub lacks : Frame → ℕ → ℕ
lacks s j = (s.formulas j).share - (s.formulas j).made

-- "what the others still lack of their shares"
unfoldable pub others_lack : Frame → ℕ → ℕ
others_lack s i = sum (λ j. pick (eqb j i) 0 (lacks s j)) s.number

-- "A formula may make a slot while it is below its share, or while all slots made plus what the others still lack of their shares are below the
-- limit": x is the counter then; within a call the others stand still
-- The second part lends what nobody is promised, and only that: so the first can always be kept.
abbrev pub may_make : Frame → ℕ → ℕ → Bool
may_make s i x = or (ltb ((s.formulas i).made + (x - s.counter)) (s.formulas i).share) (ltb (x + others_lack s i) s.limit)

abbrev pub greater : ℕ → ℕ → ℕ
greater a b = pick (ltb a b) b a

-- how far the counter may go in a call of formula i; "otherwise its patch gets 17"
-- One number for a whole call stands for the sentence at each slot (`MayMake` of Promise), since only this formula makes slots meanwhile.
unfoldable pub reach : Frame → ℕ → ℕ
reach s i = s.counter + greater (lacks s i) (s.limit - (s.counter + others_lack s i))

-- ---- calls
-- a formula's cache, with the one counter
abbrev pub cache_in : Frame → ℕ → Cache
cache_in s i = record { stacks = (s.formulas i).stacks; made = s.counter }

abbrev pub now_in : Frame → ℕ → Counted
now_in s i = record { cache = cache_in s i; count = (s.formulas i).count }

-- "in place of L"
-- so a call in a frame is a call of `resolve`, and all that is shown of those holds of it
abbrev pub function_in : Frame → ℕ → Function
function_in s i = with_limit (s.formulas i).target (s.formulas i).function (reach s i)

unfoldable pub resolve_in : Frame → ℕ → Patch → ℕ → Answer
resolve_in s i p room = resolve (s.formulas i).target (function_in s i) p room (cache_in s i)

-- "A take gives 20 also where another formula made a slot since the asking"
unfoldable pub take_in : Asked → Frame → ℕ → Answer
take_in a s i = pick (eqb a.counter s.counter) (take_answer a.preview (now_in s i)) (refused 20)

abbrev pub taken_in : Option Asked → Frame → ℕ → Option Standing
taken_in none s i = none
taken_in (some a) s i = some (record { patch = a.preview.patch; answer = take_in a s i })

abbrev pub asked_of : ℕ → Option Preview → Option Asked
asked_of counter none = none
asked_of counter (some a) = some (record { preview = a; counter = counter })

-- what of a call stands in the list of demand 3, what it is answered, and the answers to take after it, as in 02 g
unfoldable pub standing_in : Frame → ℕ → Request → Option Standing
standing_in s i (resolving p room) = some (record { patch = p; answer = resolve_in s i p room })
standing_in s i (asking p room) = none
standing_in s i (taking n) = taken_in (get_or (s.formulas i).asked n none) s i

unfoldable pub answered_in : Frame → ℕ → Request → Option Answer
answered_in s i (resolving p room) = answer_in (standing_in s i (resolving p room))
answered_in s i (asking p room) = some (resolve_in s i p room)
answered_in s i (taking n) = answer_in (standing_in s i (taking n))

unfoldable pub asked_in : Frame → ℕ → Request → List (Option Asked)
asked_in s i (resolving p room) = (s.formulas i).asked
asked_in s i (asking p room) = (s.formulas i).asked ++ (asked_of s.counter (preview_of p room (s.formulas i).count (resolve_in s i p room)) ∷ [])
asked_in s i (taking n) = (s.formulas i).asked

-- how many slots a formula has made, where a call leads to the counter n
abbrev pub made_to : Frame → ℕ → ℕ → ℕ
made_to s i n = (s.formulas i).made + (n - s.counter)

abbrev pub with_cache : Frame → ℕ → Counted → List (Option Asked) → Frame
with_cache s i c a =
    record {
      limit = s.limit;
      number = s.number;
      counter = c.cache.made;
      formulas =
          updated i
          (record {
            target = (s.formulas i).target;
            function = (s.formulas i).function;
            share = (s.formulas i).share;
            stacks = c.cache.stacks;
            made = made_to s i c.cache.made;
            count = c.count;
            asked = a;
          }) s.formulas;
    }

-- "Each call gets it and the counts made as the last one left them, a refused one unchanged."
abbrev pub after_in : Frame → ℕ → Request → Frame
after_in s i x = with_cache s i (stamped_by (now_in s i) (standing_in s i x)) (asked_in s i x)

pub record FrameCall : Type 0 where
  pub formula : ℕ
  pub request : Request

abbrev pub after_call : Frame → FrameCall → Frame
after_call s x = after_in s x.formula x.request

unfoldable pub after_calls : List FrameCall → Frame → Frame
after_calls [] s = s
after_calls (x ∷ l) s = after_calls l (after_call s x)

-- each call names one of n formulas
abbrev pub Named : ℕ → List FrameCall → Type 0
Named n [] = Unit {0}
Named n (x ∷ l) = (x.formula < n) × Named n l

-- what a formula is told: nothing to take, a number, or edits, the slots that it made itself so far and the position (02 d)
pub data Told : Type 0 where
  nothing : Told
  number : ℕ → Told
  edits : List Edit → ℕ → ℕ → Told

abbrev pub told_of : Frame → ℕ → Option Answer → Told
told_of s i none = nothing
told_of s i (some (refused n)) = number n
told_of s i (some (resolved es c n)) = edits es (made_to s i c.made) n

abbrev pub told : Frame → FrameCall → Told
told s x = told_of s x.formula (answered_in s x.formula x.request)

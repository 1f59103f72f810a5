-- 02 k: "demand 3 holds of it as of a resolved patch, its bound included", with 01's stacks and 02 j, of lists that mix the calls.
use Rattle.std.specs.Prelude.{ℕ, ◌+◌, ◌*◌, ◌≤◌, ◌≡◌, List, [], ◌∷◌, ◌++◌}
use Rattle.std.proofs.Math.Option.{some}
use Rattle.reginfo.specs.RegInfo.{RegInfo}
use Rattle.reginfo.specs.Refused as target
use Rattle.function.specs.Function.{Function}
use Rattle.function.specs.Refused as function
use Rattle.rules.specs.Edit.{Edit}
use Rattle.rules.specs.Patch.{refused}
use Rattle.rules.specs.Take.{Served, fresh}
use Rattle.machine.specs.Claim.{Owed}
use Rattle.machine.specs.Slots.{InStacks, Stays}
use Rattle.machine.specs.Enough.{num_sizes, enough_slots, planned, SizedIn, edits_in, Between}
use Rattle.group_rules.specs.Requests.{Request, standing, answered, after}

module _ (t : RegInfo) (f : Function) where
  -- request by request: of one by groups that is accepted, `Accepted` of the whole patch, its bound included
  abbrev pub RequestsClaim : List Request → Served → Type 0
  RequestsClaim [] s = Unit {0}
  RequestsClaim (x ∷ l) s = Owed t f (standing t f x s) × RequestsClaim l (after t f x s)

  -- where the emergency slots lie before the first request and after each
  abbrev pub SlotsClaim : List Request → Served → Type 0
  SlotsClaim [] s = InStacks f s.now.cache
  SlotsClaim (x ∷ l) s = InStacks f s.now.cache × Stays s.now.cache (after t f x s).now.cache × SlotsClaim l (after t f x s)

  -- 02 j: "a function never meets 17"
  abbrev pub RequestsNeverOut : List Request → Served → Type 0
  RequestsNeverOut [] s = Unit {0}
  RequestsNeverOut (x ∷ l) s = (answered t f x s ≡ some (refused 17) → ⊥) × RequestsNeverOut l (after t f x s)

  -- 02 j: "between patches every slot made lies in the stack of its size once"
  abbrev pub RequestsSizes : List Request → List Edit → Served → Type 0
  RequestsSizes [] es s = Between t f es s.now.cache
  RequestsSizes (x ∷ l) es s =
      Between t f es s.now.cache × SizedIn t f s.now.cache (answered t f x s) × RequestsSizes l (es ++ edits_in t f (standing t f x s)) (after t f x s)

abbrev pub Demand3 : Type 0
Demand3 = (t : RegInfo) (f : Function) → target.Accepted t → function.Accepted t f → (requests : List Request) → RequestsClaim t f requests fresh

abbrev pub SlotsLie : Type 0
SlotsLie = (t : RegInfo) (f : Function) → target.Accepted t → function.Accepted t f → (requests : List Request) → SlotsClaim t f requests fresh

abbrev pub EachOfItsSize : Type 0
EachOfItsSize = (t : RegInfo) (f : Function) → target.Accepted t → function.Accepted t f → (requests : List Request) → RequestsSizes t f requests [] fresh

-- so many a size and so many more as evictions are kept
abbrev pub EnoughWith : ℕ → Type 0
EnoughWith n =
    (t : RegInfo) (f : Function) → target.Accepted t → function.Accepted t f → (n + f.kept) * num_sizes t f ≤ f.limit → (requests : List Request) → RequestsNeverOut t f requests fresh

-- "129 times the number of different slot sizes among its banks, for every list of demand 3 [..]. With two, 130"; one fewer of each size too
abbrev pub Enough : Type 0
Enough = EnoughWith 128

abbrev pub FewerEnough : Type 0
FewerEnough = EnoughWith 127

-- "an L to plan with"
abbrev pub Plan : Type 0
Plan =
    (t : RegInfo) (f : Function) → target.Accepted t → function.Accepted t f
    → (enough_slots t f ≤ 1040) × function.Accepted t (planned t f) × ((requests : List Request) → RequestsNeverOut t (planned t f) requests fresh)

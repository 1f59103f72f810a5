-- Demand 3 and 02 j of what C and Rust call, as one claim about a whole list: from `parallel_moves_open` on, whatever setting and bytes it took, and
-- whatever was asked for or settled in that memory before.
use Rattle.std.specs.Prelude.{ℕ, ◌≤◌, ◌≡◌, List, [], ◌∷◌}
use Rattle.reginfo.specs.Table.{reg_info_of}
use Rattle.function.specs.Function.{Function}
use Rattle.function.specs.Table.{function_of}
use Rattle.rules.specs.Take.{fresh}
use Rattle.slots.specs.Stacks.{stamp_of}
use Rattle.number.specs.Read.{got}
use Rattle.job_rules.specs.Job.{Opened}
use Rattle.calls.specs.Opening.{opened}
use Rattle.calls_c.specs.Called.{OpenedBy, PlannedBy}
use Rattle.request_claims.specs.Calls as calls
use Rattle.request_claims.specs.Claim as claims
use Rattle.request_claims.specs.Enough as enough
use Rattle.exported_claims.specs.Calls.{Made, resolving, grouping, asking, taking, holding, Called, said}

-- call by call, acceptance, edits, words of the list, cache and position are those of the rules, and of what stands in the list of demand 3 every edit
-- is as demanded: what `request_claims` claims of Rattle's own calls, of the answers that the numbers set by these say
abbrev pub Demand3 : Type 0
Demand3 =
    (kept : ℕ) (bytes t f cache cache' : List ℕ) → OpenedBy (opened kept bytes) 0 t f cache cache' → (made : List Made) → Called t f made (holding cache')
    → claims.FewIfTaken (reg_info_of t) (function_of f) (said made) fresh → claims.Claim t f (stamp_of cache') (said made) (calls.holding cache') fresh

-- 02 j: "between patches every slot made lies in the stack of its size once"
abbrev pub EachOfItsSize : Type 0
EachOfItsSize =
    (kept : ℕ) (bytes t f cache cache' : List ℕ) → OpenedBy (opened kept bytes) 0 t f cache cache' → (made : List Made) → Called t f made (holding cache')
    → claims.FewIfTaken (reg_info_of t) (function_of f) (said made) fresh → enough.SizesClaim t f (said made) [] (calls.holding cache') fresh

-- "a function never meets 17": no call sets or answers it
abbrev pub NotOut : Made → Type 0
NotOut (resolving x) = x.refusal ≡ 17 → ⊥
NotOut (grouping x) = x.refusal ≡ 17 → ⊥
NotOut (asking x) = x.refusal ≡ 17 → ⊥
NotOut (taking x) = x.answer ≡ 17 → ⊥

abbrev pub NeverOut : List Made → Type 0
NeverOut [] = Unit {0}
NeverOut (x ∷ l) = NotOut x × NeverOut l

-- the values and the setting of two functions are the same, whatever N and L
abbrev pub SameValues : Function → Function → Type 0
SameValues f g = (f.values ≡ g.values) × (f.kept ≡ g.kept)

-- `parallel_moves_enough_slots` answered `planned` for the bytes of a function; opened with that L or more, the same values for the same target, no
-- call is out of slots
abbrev pub Planned : Type 0
Planned =
    (kept : ℕ) (bytes : List ℕ) (x : Opened) (rest : List ℕ) (planned : ℕ) → opened kept bytes ≡ got x rest → PlannedBy (opened kept bytes) planned 0
    → (bytes' t f cache cache' : List ℕ) → OpenedBy (opened kept bytes') 0 t f cache cache' → reg_info_of t ≡ x.target → SameValues (function_of f) x.function
    → planned ≤ (function_of f).limit → (made : List Made) → Called t f made (holding cache') → claims.FewIfTaken (reg_info_of t) (function_of f) (said made) fresh → NeverOut made

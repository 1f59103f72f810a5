-- 02 g: what requests are answered, on the target of swap-full.
use Rattle.std.specs.Prelude.{ℕ, ◌≡◌, List, [], ◌∷◌, map, length}
use Rattle.std.proofs.Math.Option.{Option, none, some}
use Rattle.entity.specs.Logic.{indices}
use Rattle.entity.specs.Place.{reg, slot}
use Rattle.function.specs.Function.{Function}
use Rattle.rules.specs.Edit.{Edit, Move, updated}
use Rattle.rules.specs.Scratch.{empty_cache}
use Rattle.rules.specs.Patch.{Entry, move, Answer, refused, resolved, resolve}
use Rattle.rules.specs.Trials.{three, plain, patch, swap}
use Rattle.rules.specs.Take.{Request, resolving, asking, taking, Preview, Served, fresh, answered, after, LeavesNow, reached, Counts, AnsweredNow, TwentyAfter, AsResolved}

-- nothing to take, a number, or edits, slots made and position
pub data Told : Type 0 where
  nothing : Told
  number : ℕ → Told
  edits : List Edit → ℕ → ℕ → Told

abbrev pub told_by : Option Answer → Told
told_by none = nothing
told_by (some (refused n)) = number n
told_by (some (resolved es c n)) = edits es c.made n

module _ (f : Function) where
  abbrev pub told_from : List Request → Served → List Told
  told_from [] s = []
  told_from (x ∷ l) s = told_by (answered three f x s) ∷ told_from l (after three f x s)

  abbrev pub told : List Request → List Told
  told l = told_from l fresh

  -- where requests lead: the slots made, the stack of size 3, all others being empty, and the count
  abbrev pub Leads : List Request → ℕ → List ℕ → ℕ → Type 0
  Leads l made stack count =
      ((reached three f l).now.cache.made ≡ made) × (map (reached three f l).now.cache.stacks (indices 0 32) ≡ map (updated 3 stack (λ z. [])) (indices 0 32)) × ((reached three f l).now.count ≡ count)

abbrev pub exchanged : List Entry
exchanged = move (slot 0) (slot 1) 0 ∷ move (slot 1) (slot 0) 1 ∷ []

-- r0 and r2 to r1: 12
abbrev pub overlapping : List Entry
overlapping = move (reg 0) (reg 1) 0 ∷ move (reg 2) (reg 1) 1 ∷ []

abbrev pub ask : List Entry → Request
ask es = asking (patch [] es) 16

abbrev pub put : List Entry → Request
put es = resolving (patch [] es) 16

-- swap's edits by slot s, the first that is made; no register of the order, 3 of them, would do
abbrev pub by_slot : ℕ → Told
by_slot s = edits (Move (slot s) (reg 1) 1 ∷ Move (reg 1) (reg 0) 0 ∷ Move (reg 0) (slot s) 1 ∷ []) 1 3

abbrev pub asked_twice : List Request
asked_twice = ask swap ∷ ask swap ∷ taking 0 ∷ taking 1 ∷ taking 0 ∷ []

abbrev pub same-cache : List Request
same-cache = ask swap ∷ put [] ∷ taking 0 ∷ []

abbrev pub refused-between : List Request
refused-between = ask swap ∷ put overlapping ∷ taking 0 ∷ []

abbrev pub nothing_left : List Request
nothing_left = ask swap ∷ ask exchanged ∷ put exchanged ∷ taking 0 ∷ taking 1 ∷ []

abbrev pub asked-again : List Request
asked-again = ask swap ∷ taking 0 ∷ ask swap ∷ put swap ∷ taking 1 ∷ ask swap ∷ taking 2 ∷ []

-- an answer to the swap without edits
abbrev pub nothing-done : Preview
nothing-done = record { patch = patch [] swap; room = 16; edits = []; after = empty_cache; position = 0; count = 0 }

pub record TakeTrials : Type 0 where
  -- each answer is taken once, and then the other is not
  pub twice-told : told (plain 0 1) asked_twice ≡ by_slot 0 ∷ by_slot 0 ∷ by_slot 0 ∷ number 20 ∷ number 20 ∷ []
  pub twice-led : Leads (plain 0 1) asked_twice 1 (0 ∷ []) 1
  -- a patch without entries leaves the cache the same, and is counted
  pub same-told : told (plain 0 1) same-cache ≡ by_slot 0 ∷ edits [] 0 0 ∷ number 20 ∷ []
  pub same-led : Leads (plain 0 1) same-cache 0 [] 1
  -- a refused one is not
  pub refused-told : told (plain 0 1) refused-between ≡ by_slot 0 ∷ number 12 ∷ by_slot 0 ∷ []
  pub refused-led : Leads (plain 0 1) refused-between 1 (0 ∷ []) 1
  -- a refused asking leaves nothing to take, and earlier answers good
  pub nothing-told : told (plain 2 1) nothing_left ≡ by_slot 2 ∷ number 17 ∷ number 17 ∷ by_slot 2 ∷ nothing ∷ []
  pub nothing-led : Leads (plain 2 1) nothing_left 1 (2 ∷ []) 1
  -- after a take comes the next asking, by the same slot
  pub again-told : told (plain 0 1) asked-again ≡ by_slot 0 ∷ by_slot 0 ∷ by_slot 0 ∷ by_slot 0 ∷ number 20 ∷ by_slot 0 ∷ by_slot 0 ∷ []
  pub again-led : Leads (plain 0 1) asked-again 1 (0 ∷ []) 3
  -- what is shut out: asking and taking that equals resolving though a patch was resolved between
  pub not-between :
      AsResolved three (plain 0 1) fresh (patch [] swap) 16 (put [] ∷ []) (resolve three (plain 0 1) (patch [] swap) 16 empty_cache) → ⊥
  -- resolving does not leave the cache; askings are not counted; what was asked for is not answered by other edits
  pub not_left : LeavesNow three (plain 0 1) (put swap) fresh → ⊥
  pub not-askings : Counts three (plain 0 1) length → ⊥
  pub not-others : AnsweredNow three (plain 0 1) nothing-done fresh (resolved [] empty_cache 0) → ⊥
  -- a patch was resolved since the asking, and yet no 20: the asking was refused (L = 0), and is said to be answered
  pub not-twenty : TwentyAfter three (plain 0 0) fresh (patch [] swap) 16 (put [] ∷ []) (resolved [] empty_cache 0) → ⊥
  -- nor does an asking that is answered leave nothing to take
  pub not-nothing : TwentyAfter three (plain 0 1) fresh (patch [] swap) 16 [] (refused 17) → ⊥

-- `Slots` and `Enough` (02 j) from their other side: caches and numbers of slots that they do not accept, each for one reason.
use Rattle.std.specs.Prelude.{ℕ, List, [], ◌∷◌}
use Rattle.std.proofs.Math.Option.{some}
use Rattle.entity.specs.Place.{reg, slot}
use Rattle.rules.specs.Edit.{Move, updated}
use Rattle.rules.specs.Scratch.{Cache, empty_cache}
use Rattle.rules.specs.Take.{resolving, taking, Served, fresh}
use Rattle.rules.specs.Trials.{three, plain, patch, swap}
use Rattle.machine.specs.Slots.{InStacks, Stays, SlotsClaim}
use Rattle.machine.specs.Enough.{RequestsNeverOut, RequestsSizes, Between, OfItsSize, EnoughWith}

-- so many slots made, and what lies in the stacks of sizes 3 and 4
abbrev pub lying : ℕ → List ℕ → List ℕ → Cache
lying made l m = record { stacks = updated 3 l (updated 4 m (λ z. [])); made = made }

-- an answer is there to take that leaves this cache
abbrev pub to_take : Cache → Served
to_take c =
    record {
      now = record { cache = empty_cache; count = 0 };
      asked = some (record { patch = patch [] swap; room = 16; edits = Move (slot 0) (reg 1) 1 ∷ []; after = c; position = 0; count = 0 }) ∷ [];
    }

pub record NotInStacks : Type 0 where
  -- N = 2. In no stack; twice in one; in two; an ordinary slot; one that is not made
  pub in-none : InStacks (plain 2 4) (lying 1 [] []) → ⊥
  pub twice-in-one : InStacks (plain 2 4) (lying 1 (2 ∷ 2 ∷ []) []) → ⊥
  pub in_two : InStacks (plain 2 4) (lying 1 (2 ∷ []) (2 ∷ [])) → ⊥
  pub ordinary : InStacks (plain 2 4) (lying 1 (2 ∷ 1 ∷ []) []) → ⊥
  pub not_made : InStacks (plain 2 4) (lying 1 (2 ∷ 3 ∷ []) []) → ⊥
  -- from one stack into another
  pub moved : Stays (lying 1 (2 ∷ []) []) (lying 1 [] (2 ∷ [])) → ⊥
  -- slot 0, of size 3 by the edit that names it, in the stack of another size
  pub another-size : Between three (plain 0 1) (Move (slot 0) (reg 1) 1 ∷ []) (lying 1 [] (0 ∷ [])) → ⊥
  -- twice in its own stack
  pub twice-between : Between three (plain 0 1) (Move (slot 0) (reg 1) 1 ∷ []) (lying 1 (0 ∷ 0 ∷ []) []) → ⊥
  -- a slot made that no edit names, so that nothing says its size
  pub named-by-none : Between three (plain 0 1) [] (lying 1 (0 ∷ []) []) → ⊥
  -- the same of one call
  pub call-another-size : OfItsSize three (plain 0 1) (lying 0 [] []) (Move (slot 0) (reg 1) 1 ∷ []) (lying 1 [] (0 ∷ [])) → ⊥
  pub call-names-none : OfItsSize three (plain 0 1) (lying 0 [] []) [] (lying 1 (0 ∷ []) []) → ⊥
  -- after a request too: what is taken leaves slot 0 in no stack, and in that of another size
  pub later-in-none : SlotsClaim three (plain 0 1) (taking 0 ∷ []) (to_take (lying 1 [] [])) → ⊥
  pub later-another-size : RequestsSizes three (plain 0 1) (taking 0 ∷ []) [] (to_take (lying 1 [] (0 ∷ []))) → ⊥
  -- a function meets 17 where L is 0, at once and later
  pub out : RequestsNeverOut three (plain 0 0) (resolving (patch [] swap) 16 ∷ []) fresh → ⊥
  pub later-out : RequestsNeverOut three (plain 0 0) (resolving (patch [] []) 16 ∷ resolving (patch [] swap) 16 ∷ []) fresh → ⊥
  -- any number for each size will not do: four and the setting are too few for a fan
  pub too_few : EnoughWith 4 → ⊥

-- 01, Scratch keeper: where the emergency slots lie between patches.
use Rattle.std.specs.Prelude.{ℕ, ◌+◌, ◌<◌, ◌≤◌, ◌≡◌, true, false, List, [], ◌∷◌}
use Rattle.entity.specs.Logic.{has, twice}
use Rattle.reginfo.specs.RegInfo.{RegInfo}
use Rattle.reginfo.specs.Refused as target
use Rattle.function.specs.Function.{Function}
use Rattle.function.specs.Refused as function
use Rattle.rules.specs.Scratch.{Cache}
use Rattle.rules.specs.Take.{Request, Served, fresh, after}

-- what lies in a stack is a slot made, lies there once and in no other stack
-- A slot in two stacks, or twice in one, would be taken twice and hold two values at once.
pub record Stacked (f : Function) (c : Cache) : Type 0 where
  pub once : (z : ℕ) → twice (c.stacks z) ≡ false
  pub sole : (s y z : ℕ) → has s (c.stacks y) ≡ true → has s (c.stacks z) ≡ true → y ≡ z
  pub low : (s z : ℕ) → has s (c.stacks z) ≡ true → f.slots ≤ s
  pub below : (s z : ℕ) → has s (c.stacks z) ≡ true → s < f.slots + c.made

-- of a function alone: every slot made lies in exactly one stack, once, and nothing else does
-- Nothing is lost between patches: a slot in no stack could never be taken again, and each patch would need new ones.
pub record InStacks (f : Function) (c : Cache) : Type 0 where
  pub listed : (s : ℕ) → f.slots ≤ s → s < f.slots + c.made → (z : ℕ) × (has s (c.stacks z) ≡ true)
  pub stacked : Stacked f c

-- from one cache to the next no slot leaves its stack
abbrev pub Stays : Cache → Cache → Type 0
Stays c c' = (s z : ℕ) → has s (c.stacks z) ≡ true → has s (c'.stacks z) ≡ true

-- so it is before the first request (02 g) and after each, refused ones included
abbrev pub SlotsClaim : RegInfo → Function → List Request → Served → Type 0
SlotsClaim t f [] s = InStacks f s.now.cache
SlotsClaim t f (x ∷ l) s = InStacks f s.now.cache × Stays s.now.cache (after t f x s).now.cache × SlotsClaim t f l (after t f x s)

abbrev pub SlotsLie : Type 0
SlotsLie = (t : RegInfo) (f : Function) → target.Accepted t → function.Accepted t f → (requests : List Request) → SlotsClaim t f requests fresh

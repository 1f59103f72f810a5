-- Edits, and the few operations that the rules are written with.
use Rattle.std.specs.Prelude.{ℕ, suc, Bool, List, [], ◌∷◌, eqb}
use Rattle.std.proofs.Math.Option.{Option, none, some}
use Rattle.entity.specs.Logic.{pick}
use Rattle.entity.specs.Place.{Place}

-- 01: "M is to, from, value; R to, value; S slot, register; L register, slot."
pub data Edit : Type 0 where
  Move : Place → Place → ℕ → Edit
  Rematerialize : Place → ℕ → Edit
  EmergencySpill : ℕ → ℕ → Edit
  EmergencyReload : ℕ → ℕ → Edit

-- f with x at i
unfoldable pub updated : {A : Type 0} → ℕ → A → (ℕ → A) → ℕ → A
updated i x f k = pick (eqb k i) x (f k)

-- the next step, unless the one before was refused
unfoldable pub and_then : {A B : Type 0} → Option A → (A → Option B) → Option B
and_then none next = none
and_then (some a) next = next a

-- one step after the other
unfoldable pub each : {A B : Type 0} → (B → A → Option A) → List B → A → Option A
each step [] a = some a
each step (x ∷ l) a = and_then (step x a) (each step l)

-- the first number that passes the test
unfoldable pub find : (ℕ → Bool) → List ℕ → Option ℕ
find p [] = none
find p (x ∷ l) = pick (p x) (some x) (find p l)

-- 02 d: where it stands, "counted from 0", or the list's length where none passes
unfoldable pub first_at : (ℕ → Bool) → List ℕ → ℕ
first_at p [] = 0
first_at p (x ∷ l) = pick (p x) 0 (suc (first_at p l))

unfoldable pub filter : {A : Type 0} → (A → Bool) → List A → List A
filter p [] = []
filter p (x ∷ l) = pick (p x) (x ∷ filter p l) (filter p l)

-- 02 l: "Until its first such 20, or 17 above its share, a formula's calls get the same whatever the others call, but for slot numbers renamed
-- one to one."
use Rattle.std.specs.Prelude.{ℕ, ◌+◌, ◌<◌, ◌≡◌, Bool, true, false, List, [], ◌∷◌, map, ◌⊎◌, eqb, length, get_or}
use Rattle.std.proofs.Math.Option.{Option, none, some}
use Rattle.entity.specs.Logic.{and, no}
use Rattle.entity.specs.Place.{Place, reg, slot}
use Rattle.rules.specs.Edit.{Edit, Move, Rematerialize, EmergencySpill, EmergencyReload}
use Rattle.rules.specs.Take.{Request, resolving, asking, taking}
use Rattle.frame_rules.specs.Frame.{Inlined, open_refusal, first_slots, Asked, Frame, opened, FrameCall, after_call, Named, Told, nothing, number, edits, told}

-- slots renamed in edits, and in what a formula is told
module _ (ρ : ℕ → ℕ) where
  abbrev pub ren_place : Place → Place
  ren_place (reg r) = reg r
  ren_place (slot s) = slot (ρ s)

  abbrev pub ren_edit : Edit → Edit
  ren_edit (Move to from v) = Move (ren_place to) (ren_place from) v
  ren_edit (Rematerialize to v) = Rematerialize (ren_place to) v
  ren_edit (EmergencySpill s r) = EmergencySpill (ρ s) r
  ren_edit (EmergencyReload r s) = EmergencyReload r (ρ s)

  abbrev pub ren_told : Told → Told
  ren_told nothing = nothing
  ren_told (number n) = number n
  ren_told (edits es made n) = edits (map ren_edit es) made n

-- the n ordinary slots keep their numbers; it rises, so no two slots get one number
-- Rising is more than one to one: it says that slots made earlier keep the lower numbers.
pub record Renaming (n : ℕ) (ρ : ℕ → ℕ) : Type 0 where
  pub stays : (s : ℕ) → s < n → ρ s ≡ s
  pub rises : (s x : ℕ) → s < x → ρ s < ρ x

-- "such 20": the formula took and resolved nothing since the asking, and the counter went on
abbrev pub such_of : Option Asked → ℕ → ℕ → Bool
such_of none count counter = false
such_of (some a) count counter = and (eqb a.preview.count count) (no (eqb a.counter counter))

abbrev pub such : Frame → ℕ → Request → Bool
such s i (resolving p room) = false
such s i (asking p room) = false
such s i (taking n) = such_of (get_or (s.formulas i).asked n none) (s.formulas i).count s.counter

-- the promise of sameness ends; 17 comes above the share alone (`Promised`)
abbrev pub Ends : Frame → FrameCall → Type 0
Ends s x = (told s x ≡ number 17) ⊎ (such s x.formula x.request ≡ true)

-- a call of formula i beside the same call in a frame where the others call nothing, q: told the same, renamed. The slots that the formula has
-- made keep their new numbers (ρ); those that the call would make get numbers for it, and for good if it makes them.
pub record Same (n i : ℕ) (s q : Frame) (x : FrameCall) (ρ ρ' : ℕ → ℕ) : Type 0 where
  pub renaming : Renaming n ρ'
  pub agrees : (y : ℕ) → y < n + (q.formulas i).made → ρ' y ≡ ρ y
  pub tells : told s x ≡ ren_told ρ' (told q x)

-- the others' calls are left out in q
-- Each call may have a renaming of its own, which agrees on the slots made so far: what is only asked for names slots that are not made yet, and
-- others may make theirs before it does.
abbrev pub Alike : ℕ → ℕ → List FrameCall → Frame → Frame → (ℕ → ℕ) → Type 0
Alike n i [] s q ρ = Unit {0}
Alike n i (x ∷ l) s q ρ =
    ((x.formula ≡ i → ⊥) → Alike n i l (after_call s x) q ρ)
    × (x.formula ≡ i → Ends s x ⊎ ((ρ' : ℕ → ℕ) × Same n i s q x ρ ρ' × Alike n i l (after_call s x) (after_call q x) ρ'))

abbrev pub Independent : Type 0
Independent =
    (limit : ℕ) (l : List Inlined) → open_refusal limit l ≡ none → (calls : List FrameCall) → Named (length l) calls → (i : ℕ) → i < length l
    → Alike (first_slots l) i calls (opened limit l) (opened limit l) (λ y. y)

-- a patch that is only asked for
abbrev pub is_asking : Request → Bool
is_asking (resolving p room) = false
is_asking (asking p room) = true
is_asking (taking n) = false

-- what the slots that a formula has made keep their numbers for: one renaming serves for all its calls that resolve or take, until the promise
-- ends; what is only asked for may be told other numbers for slots to come (trial `renamed-since`)
abbrev pub AllTold : ℕ → List FrameCall → Frame → Frame → (ℕ → ℕ) → Type 0
AllTold i [] s q ρ = Unit {0}
AllTold i (x ∷ l) s q ρ =
    ((x.formula ≡ i → ⊥) → AllTold i l (after_call s x) q ρ)
    × (x.formula ≡ i → Ends s x ⊎ ((is_asking x.request ≡ false → told s x ≡ ren_told ρ (told q x)) × AllTold i l (after_call s x) (after_call q x) ρ))

abbrev pub OneRenaming : Type 0
OneRenaming =
    (limit : ℕ) (l : List Inlined) → open_refusal limit l ≡ none → (calls : List FrameCall) → Named (length l) calls → (i : ℕ) → i < length l
    → (ρ : ℕ → ℕ) × Renaming (first_slots l) ρ × AllTold i calls (opened limit l) (opened limit l) ρ

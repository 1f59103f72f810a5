-- 02 l: "Until its first such 20, or 17 above its share, a formula's calls get the same whatever the others call, but for slot numbers renamed
-- one to one", over lists in which patches are resolved by groups too.
use Rattle.std.specs.Prelude.{ℕ, ◌+◌, ◌<◌, ◌≡◌, Bool, true, false, List, [], ◌∷◌, ◌⊎◌, length}
use Rattle.std.proofs.Math.Option.{none}
use Rattle.frame_rules.specs.Frame.{Inlined, open_refusal, first_slots, Frame, opened, number}
use Rattle.frame_rules.specs.Renamed as frame
use Rattle.frame_rules.specs.Renamed.{ren_told, Renaming}
use Rattle.group_rules.specs.Requests.{Request, single, grouping}
use Rattle.group_rules.specs.Frame.{FrameCall, after_call, Named, told}

-- "such 20"
abbrev pub such : Frame → ℕ → Request → Bool
such s i (single x) = frame.such s i x
such s i (grouping p room) = false

abbrev pub Ends : Frame → FrameCall → Type 0
Ends s x = (told s x ≡ number 17) ⊎ (such s x.formula x.request ≡ true)

-- a call of formula i beside the same call in a frame where the others call nothing, q
pub record Same (n i : ℕ) (s q : Frame) (x : FrameCall) (ρ ρ' : ℕ → ℕ) : Type 0 where
  pub renaming : Renaming n ρ'
  pub agrees : (y : ℕ) → y < n + (q.formulas i).made → ρ' y ≡ ρ y
  pub tells : told s x ≡ ren_told ρ' (told q x)

abbrev pub Alike : ℕ → ℕ → List FrameCall → Frame → Frame → (ℕ → ℕ) → Type 0
Alike n i [] s q ρ = Unit {0}
Alike n i (x ∷ l) s q ρ =
    ((x.formula ≡ i → ⊥) → Alike n i l (after_call s x) q ρ)
    × (x.formula ≡ i → Ends s x ⊎ ((ρ' : ℕ → ℕ) × Same n i s q x ρ ρ' × Alike n i l (after_call s x) (after_call q x) ρ'))

abbrev pub Independent : Type 0
Independent =
    (limit : ℕ) (l : List Inlined) → open_refusal limit l ≡ none → (calls : List FrameCall) → Named (length l) calls → (i : ℕ) → i < length l
    → Alike (first_slots l) i calls (opened limit l) (opened limit l) (λ y. y)

abbrev pub is_asking : Request → Bool
is_asking (single x) = frame.is_asking x
is_asking (grouping p room) = false

-- one renaming serves for all its calls that resolve, by groups or not, or take, until the promise ends
abbrev pub AllTold : ℕ → List FrameCall → Frame → Frame → (ℕ → ℕ) → Type 0
AllTold i [] s q ρ = Unit {0}
AllTold i (x ∷ l) s q ρ =
    ((x.formula ≡ i → ⊥) → AllTold i l (after_call s x) q ρ)
    × (x.formula ≡ i → Ends s x ⊎ ((is_asking x.request ≡ false → told s x ≡ ren_told ρ (told q x)) × AllTold i l (after_call s x) (after_call q x) ρ))

abbrev pub OneRenaming : Type 0
OneRenaming =
    (limit : ℕ) (l : List Inlined) → open_refusal limit l ≡ none → (calls : List FrameCall) → Named (length l) calls → (i : ℕ) → i < length l
    → (ρ : ℕ → ℕ) × Renaming (first_slots l) ρ × AllTold i calls (opened limit l) (opened limit l) ρ

-- 02 l, a schedule: what stands between its calls.
use Rattle.std.specs.Prelude.{ℕ, ◌<◌, ◌≤◌, List, length, Option, Some, None, Result, Ok, Err}
use Rattle.reading.specs.declared.Next.{Next}
use Rattle.reading.specs.declared.Next.TheVariants as X
use Rattle.frame_table.specs.Table.{number_of}
use Rattle.frame_table.specs.Held.{FrameOk}
use Rattle.frame_calls.specs.declared.FramePreview.{FramePreview}
use Rattle.schedule.specs.Standing.{Stands}
use Rattle.frame.specs.declared.Progress.{Progress}
use Rattle.frame.specs.declared.Cut.{Cut}

-- formula i stands, if there is one
abbrev pub StandsIf : (frame : List ℕ) (i : ℕ) (t f cache slots : List ℕ) → Option FramePreview → ℕ → Type 0
StandsIf frame i t f cache slots left n = i < number_of frame → Stands frame i t f cache slots left n

-- both do, whatever the tables hold that answers are left in; the first call stands at `at`
pub record BothOpen (frame t₁ f₁ cache₁ t₂ f₂ cache₂ s : List ℕ) (at : ℕ) : Type 0 where
  pub ok : FrameOk frame
  pub few : number_of frame ≤ 2
  pub one : (slots : List ℕ) → StandsIf frame 0 t₁ f₁ cache₁ slots None at
  pub two : (slots : List ℕ) → StandsIf frame 1 t₂ f₂ cache₂ slots None at
  pub within : at ≤ length s

abbrev pub AllAt : (frame t₁ f₁ cache₁ t₂ f₂ cache₂ s : List ℕ) → Next → Type 0
AllAt frame t₁ f₁ cache₁ t₂ f₂ cache₂ s (X.At at) = BothOpen frame t₁ f₁ cache₁ t₂ f₂ cache₂ s at
AllAt frame t₁ f₁ cache₁ t₂ f₂ cache₂ s (X.Refused k) = Unit {0}

-- between two calls, of a formula and the other
pub record Both (frame s : List ℕ) (at calls : ℕ) (i : ℕ) (t f cache slots : List ℕ) (left : Option FramePreview) (j : ℕ) (t' f' cache' slots' : List ℕ) (left' : Option FramePreview) : Type 0 where
  pub ok : FrameOk frame
  pub few : number_of frame ≤ 2
  pub own : StandsIf frame i t f cache slots left at
  pub other : StandsIf frame j t' f' cache' slots' left' at
  pub counted : calls ≤ at
  pub within : at ≤ length s

abbrev pub Goes : (frame t₁ f₁ cache₁ slots₁ t₂ f₂ cache₂ slots₂ s : List ℕ) → Progress → Type 0
Goes frame t₁ f₁ cache₁ slots₁ t₂ f₂ cache₂ slots₂ s p =
    Both frame s p.at p.calls 0 t₁ f₁ cache₁ slots₁ p.one 1 t₂ f₂ cache₂ slots₂ p.two

-- a schedule that was read lies within the lent bytes
abbrev pub Within : (buf : List ℕ) → Result (Option ℕ) Cut → Type 0
Within buf (Ok (Some n)) = n ≤ length buf
Within buf (Ok None) = Unit {0}
Within buf (Err _) = Unit {0}

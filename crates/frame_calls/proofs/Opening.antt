-- A formula's target and function read, with nothing behind them or something.
use Prim.Native.Nat.{ℕ, ◌<◌, ◌≤◌}
use mathlib.Core.Path.{◌≡◌, refl, ap, ◌∙◌}
use mathlib.Core.Bool.{Bool, true, false}
use mathlib.Core.List.{List, [], ◌∷◌}
use native.Mathlib.Omega.{arith}
use lib.Dec.{eqb}
use lib.ListN.{length, drop, length-drop, drop_of_length-le}
use borrow.Author.Tests.{eq-eqb, ne_eqb}
use Rattle.entity.specs.Logic.{pick}
use Rattle.reginfo.specs.Table.{reg_info_of}
use Rattle.function.specs.Table.{function_of}
use Rattle.function.proofs.Laws.{few-slots}
use Rattle.machine.proofs.Slots.{slots-empty}
use Rattle.slots.specs.Steps.{Cleared}
use Rattle.number.specs.Read.{Read, got, refused, then}
use Rattle.reading.specs.declared.Next.{Next}
use Rattle.reading.specs.declared.Next.TheVariants as X
use Rattle.job_rules.specs.Job as job
use Rattle.job_rules.specs.Formula.{beginning_within}
use Rattle.job.specs.Steps.{BegunAt}
use Rattle.calls.specs.declared.Opened.TheVariants.{Yes, Refused}
use Rattle.calls.specs.Opening.{ended}
use Rattle.frame_table.specs.Table.{slots_of}
use Rattle.frame_table.specs.Steps.{SlotsSet}
use Rattle.frame_table.specs.Held.{FrameOk}
use Rattle.frame_table.proofs.Held.{slots-ok}
use Rattle.frame_calls.specs.Given.{InFrame, least_of, most_of, opened_in, NotedIf, SlotsNoted, OpenedAs}

pub least_first : (frame : List ℕ) (i : ℕ) → i ≡ 0 → 0 ≡ least_of frame i
least_first frame i e = rw (eq-eqb i 0 e) refl

pub least_other : (frame : List ℕ) (i : ℕ) → (i ≡ 0 → ⊥) → slots_of frame ≡ least_of frame i
least_other frame i d = rw (ne_eqb i 0 d) refl

pub most-first : (frame : List ℕ) (i : ℕ) → i ≡ 0 → 4096 ≡ most_of frame i
most-first frame i e = rw (eq-eqb i 0 e) refl

pub most_other : (frame : List ℕ) (i : ℕ) → (i ≡ 0 → ⊥) → slots_of frame ≡ most_of frame i
most_other frame i d = rw (ne_eqb i 0 d) refl

pub noted-first : (frame : List ℕ) (i n : ℕ) (frame' : List ℕ) → i ≡ 0 → SlotsSet frame n frame' → SlotsNoted frame i n frame'
noted-first frame i n frame' e h = rw (eq-eqb i 0 e) h

pub noted_other : (frame : List ℕ) (i n : ℕ) → (i ≡ 0 → ⊥) → SlotsNoted frame i n frame
noted_other frame i n d = rw (ne_eqb i 0 d) refl

pub most-low : (frame : List ℕ) (i : ℕ) → FrameOk frame → most_of frame i ≤ 4096
most-low frame i k = go (eqb i 0)
  where
    go : (b : Bool) → pick b 4096 (slots_of frame) ≤ 4096
    go true = omega arith
    go false = k.slots

-- a cache with no slot made
fresh_in : {before : List ℕ} (frame f cache : List ℕ) → Cleared before cache → InFrame frame f cache
fresh_in frame f cache h =
    let s = (slots-empty (function_of f)).stacked in
    record { fits = h.fits; stacks = rw h.empty (record { once = s.once; sole = s.sole; low = s.low; below = λ x z a. omega (arith, s.below x z a) }) }

noted-ok : (frame : List ℕ) (i n : ℕ) (frame' : List ℕ) → FrameOk frame → n ≤ 4096 → SlotsNoted frame i n frame' → FrameOk frame'
noted-ok frame i n frame' k low h = go (eqb i 0) h
  where
    go : (b : Bool) → NotedIf b frame n frame' → FrameOk frame'
    go true h = slots-ok frame n frame' k low h
    go false h = rw h k

module _ (frame : List ℕ) (i kept : ℕ) (s t f cache : List ℕ) (least most : ℕ) (low : least ≡ least_of frame i) (high : most ≡ most_of frame i) where
  abbrev begun : Read job.Opened
  begun = beginning_within true (least_of frame i) (most_of frame i) kept s

  pub not_opened : (r : Next) (k : ℕ) → r ≡ X.Refused k → BegunAt s (beginning_within true least most kept s) r t f → OpenedAs frame frame i (opened_in frame i kept s) (Refused k) t f cache cache
  unfolding opened_in
  not_opened r k eq h = go begun (rw (low, high, eq) at h)
    where
      go : (x : Read job.Opened) → BegunAt s x (X.Refused k) t f → OpenedAs frame frame i (then x (λ x q. ended x q)) (Refused k) t f cache cache
      go (refused j) h = let e = h.0 in let z : k ≡ j = cc in (ap Refused z, tt, tt, refl, refl)
      go (got x rest) h = let e = h.1 in absurd (let z : ◌≡◌ {A = ℕ} 0 1 = cc in omega arith)

  pub left_over : (r : Next) (next : ℕ) → r ≡ X.At next → next < length s → BegunAt s (beginning_within true least most kept s) r t f → OpenedAs frame frame i (opened_in frame i kept s) (Refused 8) t f cache cache
  unfolding opened_in
  left_over r next eq l h = go begun (rw (low, high, eq) at h)
    where
      some_left : (x : job.Opened) (rest : List ℕ) → 0 < length rest → OpenedAs frame frame i (ended x rest) (Refused 8) t f cache cache
      some_left x [] z = absurd (omega arith)
      some_left x (b ∷ rest) z = (refl, tt, tt, refl, refl)

      go : (x : Read job.Opened) → BegunAt s x (X.At next) t f → OpenedAs frame frame i (then x (λ x q. ended x q)) (Refused 8) t f cache cache
      go (refused j) h = let e = h.0 in absurd (let z : ◌≡◌ {A = ℕ} 0 1 = cc in omega arith)
      go (got x rest) h =
          let e = h.1 in
          let same : next ≡ h.0 = cc in
          let is : rest ≡ drop next s = h.2 ∙ rw same in
          some_left x rest (rw is (omega (arith, length-drop next s)))

  module _ (r : Next) (next : ℕ) (eq : r ≡ X.At next) (h : BegunAt s (beginning_within true least most kept s) r t f) where
    -- what was read has an N within 01's limit
    pub low-slots : (function_of f).slots ≤ 4096
    low-slots = go begun (rw (low, high, eq) at h)
      where
        go : (x : Read job.Opened) → BegunAt s x (X.At next) t f → (function_of f).slots ≤ 4096
        go (refused j) h = let e = h.0 in absurd (let z : ◌≡◌ {A = ℕ} 0 1 = cc in omega arith)
        go (got x rest) h = few-slots (reg_info_of t) (function_of f) h.6.function

    pub all_read : length s ≤ next → FrameOk frame → (cache' frame' : List ℕ) → Cleared cache cache' → SlotsNoted frame i (function_of f).slots frame' → OpenedAs frame frame' i (opened_in frame i kept s) Yes t f cache cache'
    unfolding opened_in
    all_read l k cache' frame' cleared noted = go begun (rw (low, high, eq) at h)
      where
        go : (x : Read job.Opened) → BegunAt s x (X.At next) t f → OpenedAs frame frame' i (then x (λ x q. ended x q)) Yes t f cache cache'
        go (refused j) h = let e = h.0 in absurd (let z : ◌≡◌ {A = ℕ} 0 1 = cc in omega arith)
        go (got x rest) h =
            let e = h.1 in
            let same : next ≡ h.0 = cc in
            let is : rest ≡ [] = h.2 ∙ rw (← same) (drop_of_length-le s {i = next} l) in
            let noted' : SlotsNoted frame i x.function.slots frame' = rw h.5 at noted in
            rw is (refl, h.4, h.5, h.6, cleared, fresh_in frame' f cache' cleared, noted', noted-ok frame i (function_of f).slots frame' k low-slots noted)

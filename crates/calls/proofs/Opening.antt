-- A target and a function read, with nothing behind them or something.
use Prim.Native.Nat.{ℕ, ◌<◌, ◌≤◌}
use mathlib.Core.Path.{◌≡◌, refl, ap, ◌∙◌}
use mathlib.Core.List.{List, [], ◌∷◌}
use native.Mathlib.Omega.{arith}
use lib.ListN.{length, drop, length-drop, drop_of_length-le}
use Rattle.slots.specs.Steps.{Cleared}
use Rattle.number.specs.Read.{Read, got, refused, then}
use Rattle.reading.specs.declared.Next.TheVariants as X
use Rattle.parallel_moves.proofs.Resolving.{fresh}
use Rattle.job_rules.specs.Job as job
use Rattle.job.specs.Steps.{BegunAt}
use Rattle.calls.specs.declared.Opened.TheVariants.{Yes, Refused}
use Rattle.calls.specs.Opening.{ended, TablesAs, OpenedAs}

module _ (s t f : List ℕ) where
  pub not_opened : (x : Read job.Opened) (k : ℕ) → BegunAt s x (X.Refused k) t f → TablesAs (then x (λ x q. ended x q)) (Refused k) t f
  not_opened (refused j) k h = let z : k ≡ j = cc in (ap Refused z, tt, tt)
  not_opened (got x rest) k h = absurd (let z : ◌≡◌ {A = ℕ} 0 1 = cc in omega arith)

  some_left : (x : job.Opened) (rest : List ℕ) → 0 < length rest → TablesAs (ended x rest) (Refused 8) t f
  some_left x [] z = absurd (omega arith)
  some_left x (b ∷ rest) z = (refl, tt, tt)

  pub left_over : (x : Read job.Opened) (next : ℕ) → next < length s → BegunAt s x (X.At next) t f → TablesAs (then x (λ x q. ended x q)) (Refused 8) t f
  left_over (refused j) next l h = absurd (let z : ◌≡◌ {A = ℕ} 0 1 = cc in omega arith)
  left_over (got x rest) next l h =
      let same : next ≡ h.0 = cc in
      let is : rest ≡ drop next s = h.2 ∙ rw same in
      some_left x rest (rw is (omega (arith, length-drop next s)))

  pub all_read : (x : Read job.Opened) (next : ℕ) → length s ≤ next → BegunAt s x (X.At next) t f → TablesAs (then x (λ x q. ended x q)) Yes t f
  all_read (refused j) next l h = absurd (let z : ◌≡◌ {A = ℕ} 0 1 = cc in omega arith)
  all_read (got x rest) next l h =
      let same : next ≡ h.0 = cc in
      let is : rest ≡ [] = h.2 ∙ rw (← same) (drop_of_length-le s {i = next} l) in
      rw is (refl, h.4, h.5, h.6)

-- the cache beside the tables
module _ (t f cache : List ℕ) where
  pub cache-kept : (x : Read job.Opened) (k : ℕ) → TablesAs x (Refused k) t f → OpenedAs x (Refused k) t f cache cache
  cache-kept (refused j) k h = (h.0, tt, tt, refl)
  cache-kept (got x rest) k h = absurd (let z : ◌≡◌ {A = ℕ} 0 1 = cc in omega arith)

  pub cache-cleared : (x : Read job.Opened) (cache' : List ℕ) → TablesAs x Yes t f → Cleared cache cache' → OpenedAs x Yes t f cache cache'
  cache-cleared (refused j) cache' h cleared = absurd (let z : ◌≡◌ {A = ℕ} 0 1 = cc in omega arith)
  cache-cleared (got x rest) cache' h cleared = (refl, h.1, h.2, h.3, cleared, fresh f cache' cleared)

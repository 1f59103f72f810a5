-- What `open`, `open_tables` and `resolve` answer, as counts and numbers.
use Prim.Native.Nat.{ℕ}
use mathlib.Core.Path.{◌≡◌, refl, ◌∙◌}
use mathlib.Core.List.{List}
use native.Mathlib.Omega.{arith}
use Rattle.reginfo.specs.Table.{reg_info_of}
use Rattle.function.specs.Known.{Checked}
use Rattle.function.specs.Table.{function_of}
use Rattle.rules.specs.Patch.{Answer, refused, resolved}
use Rattle.machine.specs.Enough.{enough_slots}
use Rattle.number.specs.Read as read
use Rattle.number.specs.Read.{Read}
use Rattle.parallel_moves.specs.declared.Resolved.TheVariants as R
use Rattle.parallel_moves.specs.Answers.{Gives}
use Rattle.number.specs.declared.Number.TheVariants as N
use Rattle.job_rules.specs.Job.{Opened, Header}
use Rattle.job.specs.Steps.{HeaderAt}
use Rattle.calls.specs.declared.Opened.TheVariants.{Yes, Refused}
use Rattle.calls.specs.Opening.{TablesAs, OpenedAs}
use Rattle.calls_c.specs.Called.{OpenedBy, CountedBy, PlannedBy, CalledAs}

module _ (t f cache cache' : List ℕ) where
  pub opened : (x : Read Opened) → OpenedAs x Yes t f cache cache' → OpenedBy x 0 t f cache cache'
  opened (read.refused k) h = absurd (let z : ◌≡◌ {A = ℕ} 0 1 = cc in omega arith)
  opened (read.got x rest) h = (refl, h.1, h.2, h.3, h.4, h.5)

  pub not_opened : (x : Read Opened) (k : ℕ) → OpenedAs x (Refused k) t f cache cache' → OpenedBy x k t f cache cache'
  not_opened (read.refused j) k h = let z : k ≡ j = cc in (z, tt, tt, h.3)
  not_opened (read.got x rest) k h = absurd (let z : ◌≡◌ {A = ℕ} 0 1 = cc in omega arith)

-- the patch count of a job's opening
module _ (s t f : List ℕ) where
  pub counted : (x : Read Header) (n next : ℕ) → HeaderAt s x (N.Is n next) t f → CountedBy x n 0
  counted (read.refused k) n next h = absurd (let z : ◌≡◌ {A = ℕ} 0 1 = cc in omega arith)
  counted (read.got x rest) n next h = let e : n ≡ x.patches = cc in (e, refl)

  pub not-counted : (x : Read Header) (k : ℕ) → HeaderAt s x (N.Refused k) t f → CountedBy x 0 k
  not-counted (read.refused j) k h = let z : k ≡ j = cc in (refl, z)
  not-counted (read.got x rest) k h = absurd (let z : ◌≡◌ {A = ℕ} 0 1 = cc in omega arith)

-- the L to plan with, of the tables that were opened
module _ (t f : List ℕ) where
  pub tables-known : (x : Read Opened) → TablesAs x Yes t f → Checked t f
  tables-known (read.refused k) h = absurd (let z : ◌≡◌ {A = ℕ} 0 1 = cc in omega arith)
  tables-known (read.got x rest) h = h.3

  pub planned : (x : Read Opened) (n : ℕ) → TablesAs x Yes t f → n ≡ enough_slots (reg_info_of t) (function_of f) → PlannedBy x n 0
  planned (read.refused k) n h e = absurd (let z : ◌≡◌ {A = ℕ} 0 1 = cc in omega arith)
  planned (read.got x rest) n h e = (e ∙ rw (h.1, h.2), refl)

  pub not-planned : (x : Read Opened) (k : ℕ) → TablesAs x (Refused k) t f → PlannedBy x 0 k
  not-planned (read.refused j) k h = let z : k ≡ j = cc in (refl, z)
  not-planned (read.got x rest) k h = absurd (let z : ◌≡◌ {A = ℕ} 0 1 = cc in omega arith)

module _ (f : List ℕ) (position : ℕ) (list list' cache cache' : List ℕ) where
  pub gave-edits : (a : Answer) (n m : ℕ) → Gives f a (R.Edits n m) list list' cache cache' → CalledAs f a n 0 position m list list' cache cache'
  gave-edits (refused k) n m h = absurd (let z : ◌≡◌ {A = ℕ} 0 1 = cc in omega arith)
  gave-edits (resolved es c i) n m h = (h.1, refl, h.6, h.2, h.3, h.4, h.5, h.7)

  pub gave-number : (a : Answer) (k : ℕ) → Gives f a (R.Refused k) list list' cache cache' → CalledAs f a 0 k position position list list' cache cache'
  gave-number (refused n) k h = let e : k ≡ n = cc in (refl, e, refl, h.1, h.2)
  gave-number (resolved es c i) k h = absurd (let z : ◌≡◌ {A = ℕ} 0 1 = cc in omega arith)

-- A patch read alone: what its own tests make of what was read.
use Prim.Native.Nat.{ℕ}
use mathlib.Core.Path.{◌≡◌, refl, sym, ◌∙◌}
use mathlib.Core.Bool.{Bool}
use mathlib.Core.List.{List}
use mathlib.Core.Option.{Option}
use native.Mathlib.Omega.{arith}
use lib.ListN.{drop}
use Rattle.entity.specs.Logic.{has}
use Rattle.reginfo.specs.RegInfo.{RegInfo}
use Rattle.reginfo.specs.Refused.{first_of}
use Rattle.reginfo.specs.Table.{reg_info_of}
use Rattle.function.specs.Function.{Function}
use Rattle.function.specs.Table.{function_of}
use Rattle.small_set.specs.Set.{set_of}
use Rattle.rules.specs.Patch.{Patch, sorted, patch_conditions}
use Rattle.entries.specs.Table.{sorted_of}
use Rattle.entries.specs.Known.{EntriesOk}
use Rattle.entries.specs.Answers.{added_of}
use Rattle.entries.specs.declared.Added.{Added}
use Rattle.entries.specs.declared.Added.TheVariants as A
use Rattle.number.specs.Read.{Read, got, refused, then}
use Rattle.reading.specs.declared.Next.{Next}
use Rattle.reading.specs.declared.Next.TheVariants as X
use Rattle.job_patch.specs.Patches.{unless_given, patch, accepted}
use Rattle.job_patch.specs.Steps.{Holds, PatchAt}

module _ (t f s : List ℕ) (free : List Bool) (e w : List ℕ) where
  abbrev T : RegInfo
  T = reg_info_of t

  abbrev F : Function
  F = function_of f

  abbrev tests : Patch → Option ℕ
  tests p = first_of (patch_conditions T F p 1024 (sorted T F p))

  abbrev tested : Read Patch → Read Patch
  tested x = then x (λ p r. unless_given (tests p) (got p r))

  -- what `refusal` says of the patch that the tables hold
  abbrev pub Says : Added → Type 0
  Says a = (p : Patch) → ((u : ℕ) → has u p.free ≡ set_of free u) → added_of a ≡ first_of (patch_conditions T F p 1024 (sorted_of e))

  says_so : (p : Patch) (a : Added) → Holds t f free e w p → Says a → tests p ≡ added_of a
  says_so p a h g = rw (← h.is) (sym (g p h.free-is))

  unread-of : (x : Read Patch) (r : Next) (k : ℕ) → PatchAt t f s x r free e w → r ≡ X.Refused k → PatchAt t f s (tested x) (X.Refused k) free e w
  unread-of (refused j) r k h o = (sym o ∙ h.0, tt, tt, tt)
  unread-of (got p q) r k h o = let a = h.1 in let z : ◌≡◌ {A = ℕ} 0 1 = cc in absurd (omega arith)

  held_of : (x : Read Patch) (r : Next) (next : ℕ) → PatchAt t f s x r free e w → r ≡ X.At next → EntriesOk t f e w
  held_of (refused j) r next h o = let a = h.0 in let z : ◌≡◌ {A = ℕ} 0 1 = cc in absurd (omega arith)
  held_of (got p q) r next h o = h.4.ok

  turned-of : (x : Read Patch) (r : Next) (next : ℕ) (a : Added) (k : ℕ) → PatchAt t f s x r free e w → r ≡ X.At next → Says a → a ≡ A.Refused k
      → PatchAt t f s (tested x) (X.Refused k) free e w
  turned-of (refused j) r next a k h o g z = let b = h.0 in let y : ◌≡◌ {A = ℕ} 0 1 = cc in absurd (omega arith)
  turned-of (got p q) r next a k h o g z = rw (says_so p a h.4 g, z) (refl, tt, tt, tt)

  passed-of : (x : Read Patch) (r : Next) (next : ℕ) (a : Added) → PatchAt t f s x r free e w → r ≡ X.At next → Says a → a ≡ A.Yes
      → PatchAt t f s (tested x) (X.At next) free e w
  passed-of (refused j) r next a h o g z = let b = h.0 in let y : ◌≡◌ {A = ℕ} 0 1 = cc in absurd (omega arith)
  passed-of (got p q) r next a h o g z = rw (says_so p a h.4 g, z) (h.0, sym o ∙ h.1, h.2, h.3, h.4)

  module _ (at : ℕ) (r : Next) (h : PatchAt t f s (patch T F (drop at s)) r free e w) where
    pub unread : (k : ℕ) → r ≡ X.Refused k → PatchAt t f s (accepted T F (drop at s)) (X.Refused k) free e w
    unfolding accepted
    unread k o = unread-of (patch T F (drop at s)) r k h o

    pub held : (next : ℕ) → r ≡ X.At next → EntriesOk t f e w
    held next o = held_of (patch T F (drop at s)) r next h o

    pub turned-away : (next : ℕ) (a : Added) (k : ℕ) → r ≡ X.At next → Says a → a ≡ A.Refused k → PatchAt t f s (accepted T F (drop at s)) (X.Refused k) free e w
    unfolding accepted
    turned-away next a k o g z = turned-of (patch T F (drop at s)) r next a k h o g z

    pub passed : (next : ℕ) (a : Added) → r ≡ X.At next → Says a → a ≡ A.Yes → PatchAt t f s (accepted T F (drop at s)) (X.At next) free e w
    unfolding accepted
    passed next a o g z = passed-of (patch T F (drop at s)) r next a h o g z

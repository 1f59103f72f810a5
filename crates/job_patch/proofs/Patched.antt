-- A patch: its free units, then its entries.
use Prim.Native.Nat.{ℕ}
use mathlib.Core.Path.{◌≡◌, refl, ◌∙◌}
use mathlib.Core.Bool.{Bool}
use mathlib.Core.List.{List}
use native.Mathlib.Omega.{arith}
use lib.ListN.{drop}
use Rattle.entity.specs.Logic.{has}
use Rattle.reginfo.specs.RegInfo.{RegInfo}
use Rattle.reginfo.specs.Table.{reg_info_of}
use Rattle.function.specs.Function.{Function}
use Rattle.function.specs.Table.{function_of}
use Rattle.small_set.specs.Set.{set_of, empty_set}
use Rattle.rules.specs.Patch.{Entry, Patch, nothing_sorted}
use Rattle.number.specs.Read.{Read, got, refused, then}
use Rattle.number.specs.Number.{number}
use Rattle.reading.specs.declared.Next.{Next}
use Rattle.reading.specs.declared.Next.TheVariants.{At, Refused}
use Rattle.job_patch.specs.Patches.{rising, entries, patch}
use Rattle.job_patch.specs.Steps.{Entered, Freed, PatchAt}

module _ (t f s : List ℕ) (at : ℕ) where
  abbrev T : RegInfo
  T = reg_info_of t

  abbrev F : Function
  F = function_of f

  abbrev count-free : Read (List ℕ)
  count-free = then (number (drop at s)) (λ n p. rising n T.units 0 p)

  abbrev whole : List ℕ → List Entry → List ℕ → Read Patch
  whole free es o = got (record { free = free; entries = es }) o

  abbrev listed : List ℕ → Read (List Entry)
  listed q = then (number q) (λ n p. entries T F n nothing_sorted p)

  abbrev after : List ℕ → List ℕ → Read Patch
  after free q = then (number q) (λ n p. then (entries T F n nothing_sorted p) (whole free))

  abbrev joined : List ℕ → List ℕ → Read Patch
  joined free q = then (listed q) (whole free)

  -- the two parts, as one is read after the other
  last : (free : List ℕ) (y : Read ℕ) → then {B = Patch} y (λ n p. then (entries T F n nothing_sorted p) (whole free)) ≡ then {B = Patch} (then {B = List Entry} y (λ n p. entries T F n nothing_sorted p)) (whole free)
  last free (refused k) = refl
  last free (got n p) = refl

  inner : (z : Read (List ℕ)) → then {B = Patch} z after ≡ then {B = Patch} z joined
  inner (refused k) = refl
  inner (got free q) = last free (number q)

  parts : (x : Read ℕ) → then {B = Patch} x (λ k r. then (rising k T.units 0 r) after) ≡ then {B = Patch} (then {B = List ℕ} x (λ k r. rising k T.units 0 r)) joined
  parts (refused k) = refl
  parts (got k r) = inner (rising k T.units 0 r)

  patch-is : patch T F (drop at s) ≡ then count-free joined
  unfolding patch
  patch-is = parts (number (drop at s))

  pub patch-refused : (k : ℕ) (free : List Bool) (e w : List ℕ) → Freed s count-free empty_set (Refused k) free → PatchAt t f s (patch T F (drop at s)) (Refused k) free e w
  patch-refused k free e w h = rw patch-is (go count-free h)
    where
      go : (x : Read (List ℕ)) → Freed s x empty_set (Refused k) free → PatchAt t f s (then x joined) (Refused k) free e w
      go (refused j) h = (h.0, h.1, tt, tt)
      go (got us rest) h = absurd (let z : ◌≡◌ {A = ℕ} 0 1 = cc in omega arith)

  pub patch-read : (next : ℕ) (r : Next) (free : List Bool) (e w : List ℕ) → Freed s count-free empty_set (At next) free → Entered t f s (then (number (drop next s)) (λ n p. entries T F n nothing_sorted p)) nothing_sorted r e w
      → PatchAt t f s (patch T F (drop at s)) r free e w
  unfolding empty_set
  patch-read next r free e w h g = rw patch-is (go count-free h)
    where
      ends : (us : List ℕ) (y : Read (List Entry)) → ((u : ℕ) → has u us ≡ set_of free u) → Entered t f s y nothing_sorted r e w → PatchAt t f s (then y (whole us)) r free e w
      ends us (refused k) same g = (g.0, tt, g.1, g.2)
      ends us (got es rest) same g = (g.0, g.1, g.2, g.3, record { free-is = same; ok = g.4; is = g.5 })

      go : (x : Read (List ℕ)) → Freed s x empty_set (At next) free → PatchAt t f s (then x joined) r free e w
      go (refused j) h = absurd (let z : ◌≡◌ {A = ℕ} 0 1 = cc in omega arith)
      go (got us rest) h =
          let same : next ≡ h.0 = cc in
          let there : rest ≡ drop next s = h.2 ∙ rw same in
          ends us (listed rest) h.4 (rw there g)

-- A patch that was read, and its entries' numbers, read once more.
use Prim.Native.Nat.{ℕ, ◌*◌}
use mathlib.Core.Path.{◌≡◌, sym, ap, ◌∙◌}
use mathlib.Core.Bool.{Bool, true, false}
use mathlib.Core.List.{List}
use native.Mathlib.Omega.{arith}
use lib.ListN.{drop, take}
use Rattle.entity.specs.Logic.{has}
use Rattle.reginfo.specs.RegInfo.{RegInfo}
use Rattle.function.specs.Function.{Function}
use Rattle.small_set.specs.Set.{set_of}
use Rattle.rules.specs.Patch.{Patch}
use Rattle.number.specs.Read.{got, refused}
use Rattle.number.specs.declared.Number.TheVariants as N
use Rattle.parallel_moves.specs.Given.{entries_of, Numbered}
use Rattle.job_patch.specs.Patches.{patch}
use Rattle.patch_numbers.specs.Numbers.{numbers_in}
use Rattle.patch_numbers.specs.Kept.{KeptAt}
use Rattle.patch_numbers.proofs.OfPatch.{of-patch}

-- units are given, none or more
pub some-given : {A : Type 0} → true ≡ false → A
some-given e = let z : ◌≡◌ {A = ℕ} 0 1 = cc in absurd (omega arith)

module _ (t : RegInfo) (f : Function) (s : List ℕ) (at : ℕ) (numbers : List ℕ) (p : Patch) (rest : List ℕ) (read : patch t f (drop at s) ≡ got p rest) where
  -- the second reading ends as the first
  pub not-refused : (k : ℕ) → KeptAt numbers_in s at numbers (N.Refused k) → ⊥
  not-refused k h =
      let w = of-patch t f (drop at s) p rest read in
      let a : refused k ≡ numbers_in (drop at s) = h.reads in
      let b : numbers_in (drop at s) ≡ got w.0 rest = w.1 in
      let z : ◌≡◌ {A = ℕ} 0 1 = cc in
      omega arith

  pub numbered : (n next : ℕ) (free : List Bool) → KeptAt numbers_in s at numbers (N.Is n next) → ((u : ℕ) → has u p.free ≡ set_of free u) → Numbered free (take (n * 4) numbers) p
  numbered n next free h is =
      let w = of-patch t f (drop at s) p rest read in
      let a : got (take (n * 4) numbers) (drop next s) ≡ numbers_in (drop at s) = h.reads in
      let b : numbers_in (drop at s) ≡ got w.0 rest = w.1 in
      let e : w.0 ≡ take (n * 4) numbers = cc in
      record { free-is = is; are = sym w.2 ∙ ap entries_of e }

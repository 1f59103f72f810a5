-- The bytes of the shipped target: there is room for them among a job's, and they stand in front.
use Prim.Native.Nat.{ℕ, ◌<◌, ◌≤◌}
use mathlib.Core.Path.{◌≡◌, refl, sym, ◌∙◌, ap}
use mathlib.Core.List.{List, [], ◌∷◌, ◌++◌}
use native.Mathlib.Omega.{arith}
use lib.ListN.{length, take}
use lib.Seq.{length-take-le}
use Rattle.entity.specs.Logic.{indices}
use Rattle.reginfo.specs.RegInfo.{RegInfo}
use Rattle.shipped.specs.Shipped.{shipped_units, bank_of, bank_regs, shipped_bank, shipped_reg, shipped_class, shipped}
use Rattle.number.specs.Number.{groups_of}
use Rattle.job_numbers.specs.Numbers.{each_of, target_numbers, bytes_of}
use Rattle.job_bytes.specs.Puts.{Puts}
use Rattle.std.specs.Prelude.{Some, None}

shipped-length : length (bytes_of (target_numbers shipped)) ≡ 525
unfolding indices shipped_units bank_of bank_regs shipped_bank shipped_reg shipped_class shipped groups_of each_of target_numbers bytes_of
shipped-length = refl

module _ (t : RegInfo) (work work' : List ℕ) (is : t ≡ shipped) where
  pub not-over : Puts work 0 (bytes_of (target_numbers t)) work' None → ⊥
  not-over p = let h : 65536 < length (bytes_of (target_numbers shipped)) = rw is at (p.over refl) in omega (arith, h, shipped-length)

  pub in-front : (n : ℕ) → Puts work 0 (bytes_of (target_numbers t)) work' (Some n) → length work' ≡ 65536 → (n ≡ length (bytes_of (target_numbers shipped))) × (take n work' ≡ bytes_of (target_numbers shipped))
  in-front n p l =
      let e : take n work' ≡ bytes_of (target_numbers shipped) = rw is at (p.stand n refl) in
      let w : n ≤ 65536 = p.within n refl (omega arith) in
      (sym (length-take-le n work' (omega (arith, w, l))) ∙ ap length e, e)

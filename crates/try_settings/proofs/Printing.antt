-- A function tried, or refused, and what is printed of it.
use Prim.Native.Nat.{ℕ, ◌<◌, ◌≤◌}
use native.Mathlib.Omega.{arith}
use mathlib.Core.Path.{◌≡◌, refl, sym, ap, subst, ◌∙◌}
use mathlib.Core.Bool.{Bool, true, false}
use mathlib.Core.List.{List}
use borrow.Author.Tests.{leb-true, ltb-true}
use lib.Dec.{leb, ltb}
use lib.ListN.{length}
use Rattle.entity.specs.Logic.{pick, and}
use Rattle.entity.proofs.Laws.{and-true}
use Rattle.reginfo.specs.Table.{reg_info_of}
use Rattle.function.specs.Known.{Checked}
use Rattle.function.specs.Table.{function_of}
use Rattle.price.specs.declared.Prices.{Prices}
use Rattle.price.specs.Price.{in_range}
use Rattle.print.specs.Text.{refused_line}
use Rattle.print.specs.Put.{Room, Put}
use Rattle.print.proofs.Lengths.{refused-short}
use Rattle.print.proofs.Putting.{same_length}
use Rattle.number.specs.Read.{Read, got, refused}
use Rattle.entries.specs.declared.Added.TheVariants as A
use Rattle.job_rules.specs.Job.{Opened}
use Rattle.job_tries.specs.Tries.{function_asked, asked, FunctionAt}
use Rattle.try_settings.specs.Printed.{arguments_fit, asked_with, PrintedBoth, Printed}

pub refused-room : (out : List ℕ) (k : ℕ) → length out ≡ 16384 → k < 256 → Room out 0 (refused_line k)
refused-room out k e h = record { fits = omega (arith, e, refused-short k (omega arith)) }

-- what is put stands in the bytes lent
pub put-within : (out out' text : List ℕ) (r : ℕ) → Put out out' 0 text r → r ≤ length out'
put-within out out' text r w = omega (arith, w.room, w.next, same_length w)

module _ (p : Prices) (seed patches : ℕ) (s : List ℕ) where
  fit : arguments_fit seed patches ≡ true → asked_with p seed patches s ≡ function_asked p s
  unfolding asked
  fit e = go (ltb seed 4294967296) (and (leb 1 patches) (leb patches 1024)) e
    where
      go : (a b : Bool) → and a b ≡ true → pick a (pick b (function_asked p s) (refused 2)) (refused 2) ≡ function_asked p s
      go true true e = refl
      go true false e = absurd (let z : ◌≡◌ {A = ℕ} 0 1 = cc in omega arith)
      go false b e = absurd (let z : ◌≡◌ {A = ℕ} 0 1 = cc in omega arith)

  unfit : arguments_fit seed patches ≡ false → asked_with p seed patches s ≡ refused 2
  unfolding asked
  unfit e = go (ltb seed 4294967296) (and (leb 1 patches) (leb patches 1024)) e
    where
      go : (a b : Bool) → and a b ≡ false → pick a (pick b (function_asked p s) (refused 2)) (refused 2) ≡ refused 2
      go true true e = absurd (let z : ◌≡◌ {A = ℕ} 0 1 = cc in omega arith)
      go true false e = refl
      go false b e = refl

  pub fits-few : arguments_fit seed patches ≡ true → (seed < 4294967296) × (patches ≤ 1024)
  fits-few e =
      let a = and-true (ltb seed 4294967296) _ e in
      let b = and-true (leb 1 patches) _ a.1 in
      (ltb-true _ _ a.0, leb-true _ _ b.1)

  module _ (out out' : List ℕ) (r : ℕ) where
    pub printed-unfit : arguments_fit seed patches ≡ false → Put out out' 0 (refused_line 2) r → Printed (asked_with p seed patches s) p seed patches out out' r
    printed-unfit e w = rw (unfit e) w

    pub printed-refused : arguments_fit seed patches ≡ true → (k : ℕ) (t f : List ℕ) → FunctionAt p (function_asked p s) (A.Refused k) t f → Put out out' 0 (refused_line k) r
        → Printed (asked_with p seed patches s) p seed patches out out' r
    printed-refused e k t f h w = rw (fit e) (go (function_asked p s) h)
      where
        go : (x : Read Opened) → FunctionAt p x (A.Refused k) t f → Printed x p seed patches out out' r
        go (refused j) h = let z : k ≡ j = cc in subst (λ (i : ℕ). Put out out' 0 (refused_line i) r) z w
        go (got x l) h = absurd (let z : ◌≡◌ {A = ℕ} 0 1 = cc in omega arith)

    pub printed : arguments_fit seed patches ≡ true → (t f : List ℕ) → FunctionAt p (function_asked p s) A.Yes t f → PrintedBoth (reg_info_of t) (function_of f) p seed patches out out' r
        → Printed (asked_with p seed patches s) p seed patches out out' r
    printed e t f h w = rw (fit e) (go (function_asked p s) h)
      where
        go : (x : Read Opened) → FunctionAt p x A.Yes t f → Printed x p seed patches out out' r
        go (refused j) h = absurd (let z : ◌≡◌ {A = ℕ} 0 1 = cc in omega arith)
        go (got x l) h = rw (sym h.1, sym h.2) w

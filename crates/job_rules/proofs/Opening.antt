-- An opening in its several forms: with prices or without, and with N in any range.
use Prim.Native.Nat.{ℕ}
use mathlib.Core.Path.{◌≡◌, refl, sym, ap, ◌∙◌}
use mathlib.Core.Bool.{Bool, true, false}
use mathlib.Core.List.{List}
use mathlib.Core.Option.{Option, none, some}
use lib.Dec.{ltb}
use lib.ListN.{length}
use Rattle.entity.specs.Logic.{pick, no}
use Rattle.reginfo.specs.RegInfo.{RegInfo}
use Rattle.reginfo.specs.Refused.{target_refusal}
use Rattle.function.specs.Function.{Function, is_setting}
use Rattle.number.specs.Read.{Read, got, refused, then}
use Rattle.job_target.specs.Target.{target}
use Rattle.job_function.specs.Reads.{function, function_within}
use Rattle.job_patch.specs.Patches.{unless_given}
use Rattle.job_rules.specs.Job.{Opened, after_target, header, with_function, beginning, opening}
use Rattle.job_rules.specs.Priced.{unless_outside, beginning_if, opening_if}
use Rattle.job_rules.specs.Formula.{with_function_within, beginning_within, counted, opening_within}

-- N from 0 to 4,096 is no other test than a function's own
pub beginning-any : (ok : Bool) (kept : ℕ) (l : List ℕ) → beginning_within ok 0 4096 kept l ≡ beginning_if ok kept l
unfolding beginning_within beginning_if with_function_within with_function function_within function
beginning-any ok kept l = refl

-- without prices nothing is tested
pub beginning-unpriced : (kept : ℕ) (l : List ℕ) → beginning_if true kept l ≡ beginning kept l
unfolding beginning_if beginning
beginning-unpriced kept l = refl

pub opening-unpriced : (kept : ℕ) (l : List ℕ) → opening_if true kept l ≡ opening kept l
unfolding opening_if opening header
opening-unpriced kept l = refl

opening-if-is : (ok : Bool) (kept : ℕ) (l : List ℕ) → opening_if ok kept l ≡ then (beginning_if ok kept l) (λ x q. counted x q)
unfolding opening_if after_target beginning_if with_function
opening-if-is ok kept l = go (no (is_setting kept)) (ltb 65536 (length l)) (target l)
  where
    of_function : (t : RegInfo) (o : Option ℕ) (ok : Bool) (y : Read Function)
        → unless_given o (unless_outside ok (then y (λ f q. counted (record { target = t; function = f }) q)))
        ≡ then (unless_given o (unless_outside ok (then y (λ f q. got (record { target = t; function = f }) q)))) (λ x q. counted x q)
    of_function t (some k) ok y = refl
    of_function t none false y = refl
    of_function t none true (refused k) = refl
    of_function t none true (got f q) = refl

    go : (a b : Bool) (x : Read RegInfo)
        → pick a (refused 22) (pick b (refused 2) (then x (λ t r. unless_given (target_refusal t) (unless_outside ok (then (function t kept r) (λ f q. counted (record { target = t; function = f }) q))))))
        ≡ then (pick a (refused 22) (pick b (refused 2) (then x (λ t r. unless_given (target_refusal t) (unless_outside ok (then (function t kept r) (λ f q. got (record { target = t; function = f }) q))))))) (λ x q. counted x q)
    go true b x = refl
    go false true x = refl
    go false false (refused k) = refl
    go false false (got t r) = of_function t (target_refusal t) ok (function t kept r)

pub opening-is : (kept : ℕ) (l : List ℕ) → opening kept l ≡ then (beginning kept l) (λ x q. counted x q)
opening-is kept l = sym (opening-unpriced kept l) ∙ opening-if-is true kept l ∙ ap (λ (x : Read Opened). then x (λ x q. counted x q)) (beginning-unpriced kept l)

pub opening-any : (ok : Bool) (kept : ℕ) (l : List ℕ) → opening_within ok 0 4096 kept l ≡ opening_if ok kept l
unfolding opening_within
opening-any ok kept l = ap (λ (x : Read Opened). then x (λ x q. counted x q)) (beginning-any ok kept l) ∙ sym (opening-if-is ok kept l)

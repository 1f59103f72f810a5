-- A frame is refused by the first of its conditions.
use Prim.Native.Nat.{ℕ}
use mathlib.Core.Path.{◌≡◌, refl, sym, ap, ◌∙◌}
use mathlib.Core.Bool.{Bool, true, false}
use mathlib.Core.List.{List, [], ◌∷◌, ◌++◌}
use mathlib.Core.Option.{Option}
use lib.Dec.{eqb}
use Rattle.entity.specs.Logic.{no, indices}
use Rattle.reginfo.specs.RegInfo.{RegInfo}
use Rattle.reginfo.specs.Refused.{Condition, refused_if, or_else, first_of, target_refusal}
use Rattle.reginfo.proofs.First.{first-none, none_first, given-first, first-given}
use Rattle.function.specs.Function.{Function, num_values, is_setting}
use Rattle.function.specs.Refused.{counts_fit, value_fits, foreign_class, values_refusal, function_refusal}
use Rattle.frame_rules.specs.Frame.{Inlined, frame_conditions, or_given, formula_refusal, formulas_refusal, first_slots, open_refusal}
use Rattle.frame_rules.specs.Opening.{target_conditions, values_conditions, formula_conditions, formulas_conditions, open_conditions, Openings}

-- of two lists the first that holds
first-of-both : (a b : List Condition) → first_of (a ++ b) ≡ or_given (first_of a) (first_of b)
unfolding first_of
first-of-both [] b = refl
first-of-both (c ∷ a) b = go c.holds (first-of-both a b)
  where
    go : (h : Bool) → first_of (a ++ b) ≡ or_given (first_of a) (first_of b) → or_else h c.number (first_of (a ++ b)) ≡ or_given (or_else h c.number (first_of a)) (first_of b)
    go true e = refl
    go false e = e

values-is : (t : RegInfo) (f : Function) (l : List ℕ) → first_of (values_conditions t f l) ≡ values_refusal t f l
unfolding first_of values_conditions values_refusal
values-is t f [] = refl
values-is t f (v ∷ l) = ap (λ (o : Option ℕ). or_else (no (value_fits t f v)) 2 (or_else (foreign_class t f v) 9 o)) (values-is t f l)

formula-is : (n : ℕ) (x : Inlined) → first_of (formula_conditions n x) ≡ formula_refusal n x
unfolding first_of target_refusal function_refusal formula_conditions formula_refusal
formula-is n x = go (is_setting x.function.kept)
  where
    rest : List Condition
    rest = refused_if 2 (no (eqb x.function.slots n)) ∷ refused_if 2 (no (counts_fit x.function)) ∷ values_conditions x.target x.function (indices 0 (num_values x.function))

    go : (b : Bool)
        → or_else (no b) 22 (first_of (target_conditions x.target ++ rest))
        ≡ or_else (no b) 22
        (or_given (first_of (target_conditions x.target))
        (or_else (no (eqb x.function.slots n)) 2 (or_else (no b) 22 (or_else (no (counts_fit x.function)) 2 (values_refusal x.target x.function (indices 0 (num_values x.function)))))))
    go false = refl
    go true =
        first-of-both (target_conditions x.target) rest
        ∙ ap (λ (o : Option ℕ). or_given (first_of (target_conditions x.target)) (or_else (no (eqb x.function.slots n)) 2 (or_else (no (counts_fit x.function)) 2 o)))
        (values-is x.target x.function (indices 0 (num_values x.function)))

formulas-are : (n : ℕ) (l : List Inlined) → first_of (formulas_conditions n l) ≡ formulas_refusal n l
unfolding first_of formulas_conditions formulas_refusal
formulas-are n [] = refl
formulas-are n (x ∷ l) = first-of-both (formula_conditions n x) (formulas_conditions n l) ∙ rw (formula-is n x, formulas-are n l) refl

open_is : (limit : ℕ) (l : List Inlined) → first_of (open_conditions limit l) ≡ open_refusal limit l
unfolding open_refusal
open_is limit l = first-of-both (frame_conditions limit l) (formulas_conditions (first_slots l) l) ∙ ap (or_given (first_of (frame_conditions limit l))) (formulas-are (first_slots l) l)

pub openings : Openings
openings limit l =
    record {
      given = λ n. ((λ e. first-given (open_conditions limit l) n (open_is limit l ∙ e)), λ g. sym (open_is limit l) ∙ given-first (open_conditions limit l) n g);
      taken = ((λ e. first-none (open_conditions limit l) (open_is limit l ∙ e)), λ h. sym (open_is limit l) ∙ none_first (open_conditions limit l) h);
    }

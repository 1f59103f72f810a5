-- 02 l: what is refused of a frame when it is opened, condition by condition in the order of reading.
use Rattle.std.specs.Prelude.{ℕ, ◌≡◌, List, [], ◌∷◌, ◌++◌, ◌↔◌, eqb}
use Rattle.std.proofs.Math.Option.{none, some}
use Rattle.entity.specs.Logic.{no, indices}
use Rattle.reginfo.specs.RegInfo.{RegInfo}
use Rattle.reginfo.specs.Refused.{Condition, refused_if, outside_limits, listed_twice, unequal_widths, foreign_member, shared_memory, unfit_class}
use Rattle.reginfo.specs.Given.{Given, NoneHolds}
use Rattle.function.specs.Function.{Function, num_values, is_setting}
use Rattle.function.specs.Refused.{counts_fit, value_fits, foreign_class}
use Rattle.frame_rules.specs.Frame.{Inlined, frame_conditions, first_slots, open_refusal}

-- 01: 2 and 3 as the target is read, "4 to 7 rising after the target"
abbrev pub target_conditions : RegInfo → List Condition
target_conditions t =
    refused_if 2 (outside_limits t)
    ∷ refused_if 3 (listed_twice t)
    ∷ refused_if 4 (unequal_widths t)
    ∷ refused_if 5 (foreign_member t)
    ∷ refused_if 6 (shared_memory t)
    ∷ refused_if 7 (unfit_class t)
    ∷ []

-- value by value; "9 for a rebuild class when the function is read"
unfoldable pub values_conditions : RegInfo → Function → List ℕ → List Condition
values_conditions t f [] = []
values_conditions t f (v ∷ l) = refused_if 2 (no (value_fits t f v)) ∷ refused_if 9 (foreign_class t f v) ∷ values_conditions t f l

-- of one formula: "22, a setting other than 1 or 2, tested before the job"; its target; "All have the first one's N (else 2, when that N is
-- read)"; the counts of its function and its values
unfoldable pub formula_conditions : ℕ → Inlined → List Condition
formula_conditions n x =
    refused_if 22 (no (is_setting x.function.kept))
    ∷ (target_conditions x.target
    ++ (refused_if 2 (no (eqb x.function.slots n))
    ∷ refused_if 2 (no (counts_fit x.function))
    ∷ values_conditions x.target x.function (indices 0 (num_values x.function))))

-- one formula after the other
unfoldable pub formulas_conditions : ℕ → List Inlined → List Condition
formulas_conditions n [] = []
formulas_conditions n (x ∷ l) = formula_conditions n x ++ formulas_conditions n l

-- "(else 2 for either, tested first)"; "23, [..] tested next, before the first job's setting"
abbrev pub open_conditions : ℕ → List Inlined → List Condition
open_conditions limit l = frame_conditions limit l ++ formulas_conditions (first_slots l) l

-- "Each is given when its condition holds and none earlier does, else not."
pub record OpenRefusals (limit : ℕ) (l : List Inlined) : Type 0 where
  pub given : (n : ℕ) → (open_refusal limit l ≡ some n) ↔ Given (open_conditions limit l) n
  pub taken : (open_refusal limit l ≡ none) ↔ NoneHolds (open_conditions limit l)

abbrev pub Openings : Type 0
Openings = (limit : ℕ) (l : List Inlined) → OpenRefusals limit l

-- 01, The target and The job: what is refused of a function over a target, in the order in which it is read; 02 i: its setting before that.
use Rattle.std.specs.Prelude.{ℕ, ◌≡◌, Bool, List, [], ◌∷◌, eqb, ltb, leb}
use Rattle.std.proofs.Math.Option.{Option, none}
use Rattle.entity.specs.Logic.{and, or, no, indices}
use Rattle.reginfo.specs.RegInfo.{RegInfo, num_banks, num_classes, bank_for_class}
use Rattle.reginfo.specs.Refused.{or_else}
use Rattle.function.specs.Function.{Function, num_values, value_bank, remat_cost, remat_class, is_setting, can_rematerialize}

-- 2: "values 0 to 4,096, ordinary slots N 0 to 4,096, emergency limit L 0 to 2,048"
unfoldable pub counts_fit : Function → Bool
counts_fit f = and (leb (num_values f) 4096) (and (leb f.slots 4096) (leb f.limit 2048))

-- 2: a bank, a rebuild code, and a class unless the code is 0
unfoldable pub value_fits : RegInfo → Function → ℕ → Bool
value_fits t f v = and (ltb (value_bank f v) (num_banks t)) (and (leb (remat_cost f v) 2) (or (no (can_rematerialize f v)) (ltb (remat_class f v) (num_classes t))))

-- 9: "a [..] rebuild class not of the value's bank"
unfoldable pub foreign_class : RegInfo → Function → ℕ → Bool
foreign_class t f v = and (can_rematerialize f v) (no (eqb (bank_for_class t (remat_class f v)) (value_bank f v)))

-- value by value
unfoldable pub values_refusal : RegInfo → Function → List ℕ → Option ℕ
values_refusal t f [] = none
values_refusal t f (v ∷ l) = or_else (no (value_fits t f v)) 2 (or_else (foreign_class t f v) 9 (values_refusal t f l))

-- 22: "a setting other than 1 or 2, tested before the job"
unfoldable pub function_refusal : RegInfo → Function → Option ℕ
function_refusal t f = or_else (no (is_setting f.kept)) 22 (or_else (no (counts_fit f)) 2 (values_refusal t f (indices 0 (num_values f))))

-- an accepted function
abbrev pub Accepted : RegInfo → Function → Type 0
Accepted t f = function_refusal t f ≡ none

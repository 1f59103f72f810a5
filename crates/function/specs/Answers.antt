-- What the enums of the code stand for.
use Rattle.std.specs.Prelude.{ℕ, Result, Ok, Err, ⊤}
use Rattle.std.proofs.Math.Option.{Option, none, some}
use Rattle.entity.specs.Logic.{pick}
use Rattle.function.specs.Function.{Function, remat_cost, remat_class, can_rematerialize}
use Rattle.function.specs.declared.Remat.{Remat}
use Rattle.function.specs.declared.Remat.TheVariants.{Never, CheaperThanMove, CheaperThanLoad}
use Rattle.function.specs.declared.FunctionError.{FunctionError}
use Rattle.function.specs.declared.FunctionError.TheVariants.{OtherSetting, OutsideLimits, ForeignClass}

-- 01's code and the class
pub record RematData : Type 0 where
  pub cost : ℕ
  pub class : ℕ

abbrev pub remat_of : Remat → Option RematData
remat_of Never = none
remat_of (CheaperThanMove c) = some (record { cost = 1; class = c.0 })
remat_of (CheaperThanLoad c) = some (record { cost = 2; class = c.0 })

-- how a value is rebuilt, if it can be
unfoldable pub rematerialize : Function → ℕ → Option RematData
rematerialize f v = pick (can_rematerialize f v) (some (record { cost = remat_cost f v; class = remat_class f v })) none

-- the number by which a function is refused
abbrev pub number_of : Result ⊤ FunctionError → Option ℕ
number_of (Ok _) = none
number_of (Err OtherSetting) = some 22
number_of (Err OutsideLimits) = some 2
number_of (Err ForeignClass) = some 9

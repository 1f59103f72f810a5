-- 01, The job: "function: values, N, L; each value bank, rebuild 0 none, 1 `CheaperThanMove`, 2 `CheaperThanLoad`, and a class unless 0";
-- 02 i: and its number of kept evictions, which is given beside the job.
use Rattle.std.specs.Prelude.{ℕ, Bool, List, length, get_or, eqb}
use Rattle.entity.specs.Logic.{or, no}

pub record ValueData : Type 0 where
  pub bank : ℕ
  pub cost : ℕ
  pub class : ℕ

-- `slots` is 01's N, the ordinary slots; `limit` its L, how many emergency slots may be made; `kept` is how many evictions are kept at once
pub record Function : Type 0 where
  pub values : List ValueData
  pub slots : ℕ
  pub limit : ℕ
  pub kept : ℕ

abbrev pub no_value : ValueData
no_value = record { bank = 0; cost = 0; class = 0 }

abbrev pub num_values : Function → ℕ
num_values f = length f.values

unfoldable pub value_bank : Function → ℕ → ℕ
value_bank f v = (get_or f.values v no_value).bank

unfoldable pub remat_cost : Function → ℕ → ℕ
remat_cost f v = (get_or f.values v no_value).cost

unfoldable pub remat_class : Function → ℕ → ℕ
remat_class f v = (get_or f.values v no_value).class

-- 02 i: "A function may set its number of kept evictions to 1 or 2"
unfoldable pub is_setting : ℕ → Bool
is_setting n = or (eqb n 1) (eqb n 2)

-- the value can be rebuilt
abbrev pub can_rematerialize : Function → ℕ → Bool
can_rematerialize f v = no (eqb (remat_cost f v) 0)

-- What an accessor asks of its value, and what the tests of the tables leave known.
use Rattle.std.specs.Prelude.{ℕ, ◌<◌, ◌≤◌, List}
use Rattle.reginfo.specs.Refused as target
use Rattle.reginfo.specs.Table.{reg_info_of, Indexed}
use Rattle.function.specs.Function.{Function, num_values}
use Rattle.function.specs.Refused as refused
use Rattle.function.specs.Table.{function_of}

pub record KnownValue (f : Function) (v : ℕ) : Type 0 where
  pub is : v < num_values f
  pub few : num_values f ≤ 4096

-- the tables of an accepted target and function
pub record Checked (t f : List ℕ) : Type 0 where
  pub target : target.Accepted (reg_info_of t)
  pub indexed : Indexed t
  pub function : refused.Accepted (reg_info_of t) (function_of f)

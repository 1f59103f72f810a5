-- The function as one table of numbers: value v at 4 v: bank, rebuild, class; 16384: how many values, N, L, how many evictions are kept.
use Rattle.std.specs.Prelude.{ℕ, ◌+◌, ◌*◌, List, map, get_or}
use Rattle.entity.specs.Logic.{indices}
use Rattle.function.specs.Function.{ValueData, Function}

unfoldable pub value_at : List ℕ → ℕ → ValueData
value_at t v = record { bank = get_or t (v * 4) 0; cost = get_or t (1 + v * 4) 0; class = get_or t (2 + v * 4) 0 }

unfoldable pub function_of : List ℕ → Function
function_of t = record { values = map (value_at t) (indices 0 (get_or t 16384 0)); slots = get_or t 16385 0; limit = get_or t 16386 0; kept = get_or t 16387 0 }

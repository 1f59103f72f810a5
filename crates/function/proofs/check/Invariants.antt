-- `check` meets its contract. The invariant: what is refused of the function is what is refused of the values from `i` on.
use Prim.Native.Nat.{◌-◌, ◌≤◌}
use mathlib.Core.Path.{◌≡◌}
use Rattle.entity.specs.Logic.{indices}
use Rattle.reginfo.specs.Table.{reg_info_of}
use Rattle.function.specs.Function.{num_values}
use Rattle.function.specs.Table.{function_of}
use Rattle.function.specs.Refused.{values_refusal, function_refusal}
use Rattle.function.proofs.check.Given as goal

abbrev pub invariant-loop-i : goal.invariant-loop-i
invariant-loop-i l = (function_refusal (reg_info_of l.t) (function_of l.f) ≡ values_refusal (reg_info_of l.t) (function_of l.f) (indices l.i (num_values (function_of l.f) - l.i))) × (num_values (function_of l.f) ≤ 4096)

-- The sizes of the values before i are marked.
use Prim.Native.Nat.{ℕ, ◌-◌, ◌≤◌}
use mathlib.Core.Path.{◌≡◌}
use Rattle.entity.specs.Logic.{or, any_in, indices}
use Rattle.reginfo.specs.Table.{reg_info_of}
use Rattle.small_set.specs.Set.{set_of}
use Rattle.function.specs.Function.{num_values}
use Rattle.function.specs.Table.{function_of}
use Rattle.machine.specs.Enough.{is_size}
use Rattle.enough_slots.proofs.Laws.{of_size}
use Rattle.enough_slots.proofs.mark_sizes.Given as goal

abbrev pub invariant-loop-i : goal.invariant-loop-i
invariant-loop-i l =
    ((z : ℕ) → or (set_of l.initial.sizes z) (is_size (reg_info_of l.t) (function_of l.f) z) ≡ or (set_of l.sizes z) (any_in (of_size (reg_info_of l.t) (function_of l.f) z) (indices l.i (num_values (function_of l.f) - l.i))))
    × (l.i ≤ num_values (function_of l.f)) × (num_values (function_of l.f) ≤ 4096)

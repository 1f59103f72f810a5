-- `last_overlaps` meets its contract: whether one clashes from the start equals whether one does from here.
use Prim.Native.Nat.{◌≤◌}
use mathlib.Core.Path.{◌≡◌}
use lib.ListN.{length, drop}
use Rattle.entity.specs.Logic.{any_in}
use Rattle.reginfo.specs.Table.{reg_info_of}
use Rattle.function.specs.Function.{remat_class}
use Rattle.function.specs.Table.{function_of}
use Rattle.rules.specs.Order.{Remat}
use Rattle.rules.specs.Patch.{last_overlaps}
use Rattle.entries.specs.Table.{sorted_of}
use Rattle.entries.specs.Known.{last_clashes}
use Rattle.entries.proofs.refusals.last_overlaps.Given as goal

abbrev pub invariant-loop-i : goal.invariant-loop-i
invariant-loop-i l = (last_overlaps (reg_info_of l.t) (function_of l.f) (sorted_of l.e) ≡ any_in (λ (r : Remat). last_clashes (reg_info_of l.t) (remat_class (function_of l.f) r.value) r.dest) (drop l.i (sorted_of l.e).remats_with_scratch)) × (l.i ≤ length (sorted_of l.e).remats_with_scratch) × (l.n ≡ length (sorted_of l.e).remats_with_scratch) × (l.n ≤ 128)

-- `note_sources` meets its contract: the sources noted with those from here on are all sources.
use Prim.Native.Nat.{ℕ, ◌≤◌}
use mathlib.Core.Path.{◌≡◌}
use lib.ListN.{length, drop}
use Rattle.entity.specs.Logic.{or, any_in}
use Rattle.reginfo.specs.Table.{reg_info_of}
use Rattle.small_set.specs.Set.{set_of}
use Rattle.visits.specs.Marks.{moves_of}
use Rattle.visits.proofs.Writers.{source_unit}
use Rattle.visits.proofs.note_sources.Given as goal

abbrev pub invariant-loop-m : goal.invariant-loop-m
invariant-loop-m l = ((u : ℕ) → any_in (source_unit (reg_info_of l.t) (moves_of l.e) u) (moves_of l.e) ≡ or (any_in (source_unit (reg_info_of l.t) (moves_of l.e) u) (drop l.m (moves_of l.e))) (set_of l.sources u)) × (l.m ≤ length (moves_of l.e))

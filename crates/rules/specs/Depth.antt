-- 01, Ordering: the bound on the depth of a visit never decides.
use Rattle.std.specs.Prelude.{ℕ, ◌≤◌, ◌≡◌, List, length}
use Rattle.std.proofs.Math.Option.{Option, some}
use Rattle.entity.specs.Logic.{pick, or, indices}
use Rattle.reginfo.specs.RegInfo.{RegInfo, is_memory}
use Rattle.function.specs.Function.{Function}
use Rattle.rules.specs.Edit.{and_then, each}
use Rattle.rules.specs.Scratch.{ScratchAllocator, unevict_all}
use Rattle.rules.specs.Order.{KeptMove, ParallelMoves, source, dest, visit, start, moves}

module _ (t : RegInfo) (f : Function) (ms : List KeptMove) where
  -- `visit_unless_memory` and `moves`, with visits at most d deep
  unfoldable pub visit_unless_memory_within : ℕ → ℕ → ParallelMoves → Option ParallelMoves
  visit_unless_memory_within d i w = pick (or (is_memory t (source t f ms i)) (is_memory t (dest t f ms i))) (some w) (visit t f ms d i w)

  unfoldable pub moves_within : ℕ → ScratchAllocator → Option ScratchAllocator
  moves_within d k =
      and_then (and_then (each (visit_unless_memory_within d) (indices 0 (length ms)) (start t f ms k)) (each (visit t f ms d) (indices 0 (length ms))))
      (λ w. some (unevict_all t f w.allocator))

  -- no bound from the number of kept moves on makes a difference, whatever the target, the function and the moves
  abbrev pub NeverDecides : Type 0
  NeverDecides = (d : ℕ) → length ms ≤ d → (k : ScratchAllocator) → moves_within d k ≡ moves t f ms k

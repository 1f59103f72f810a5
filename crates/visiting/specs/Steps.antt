-- What visiting the kept moves ensures.
use Rattle.std.specs.Prelude.{ℕ, ◌≤◌, ◌≡◌, false, List, length}
use Rattle.std.proofs.Math.Option.{Option, some}
use Rattle.rules.specs.Order.{ParallelMoves, is_new, moves}
use Rattle.rules.specs.Counts.{news}
use Rattle.scratch.specs.declared.ScratchAllocator.{ScratchAllocator}
use Rattle.scratch.specs.declared.Evicted.TheVariants.{Nothing}
use Rattle.scratch.specs.State.{T, F, evicted_in}
use Rattle.scratch.specs.Promises.{Tables, state_of, FitsIn}
use Rattle.visits.specs.Marks.{moves_of, states_of}
use Rattle.closing.specs.State.{Work, Stands}
use Rattle.closing.specs.Steps.{PaidFor, Gone}

-- a move that is visited already is left as it is
abbrev pub VisitedStay : List ℕ → List ℕ → Type 0
VisitedStay marks marks' = (x : ℕ) → is_new (states_of marks x) ≡ false → states_of marks' x ≡ states_of marks x

module _ (t f cache e : List ℕ) where
  -- before a visit: the edits that the rest can need have room
  pub record Visits (p : ParallelMoves) (k : ScratchAllocator) (w : Work) : Type 0 where
    pub stands : Stands t f cache e 0 p k w
    pub paid : PaidFor t f cache e 1024 p

  -- a visit or a walk over writers, with any bound on the depth that is not below the number of moves not visited
  pub record Visited (step : ℕ → ParallelMoves → Option ParallelMoves) (k : ScratchAllocator) (w : Work) (k' : ScratchAllocator) (w' : Work) : Type 0 where
    pub stay : VisitedStay w.marks w'.marks
    pub goes : (p : ParallelMoves) (depth : ℕ) → Visits p k w → news (length (moves_of e)) p.state ≤ depth → Gone t f cache e (step depth) p k' w'

  -- steps at roots, whose bound on the depth is the number of kept moves
  pub record Passed (step : ParallelMoves → Option ParallelMoves) (k : ScratchAllocator) (w : Work) (k' : ScratchAllocator) (w' : Work) : Type 0 where
    pub goes : (p : ParallelMoves) → Visits p k w → Gone t f cache e step p k' w'

  -- all kept moves, from an allocator with room for 8 edits each
  pub record Moves (k : ScratchAllocator) (w : Tables) (k' : ScratchAllocator) (w' : Tables) : Type 0 where
    pub is : moves (T t) (F f) (moves_of e) (state_of t f cache k w) ≡ some (state_of t f cache k' w')
    pub fits : FitsIn t f cache 0 2 0 k' w'
    pub saved : evicted_in k' ≡ Nothing

-- What the steps of closing a move ensure: from every state of the rules that the tables stand for, they go where the rules go.
use Rattle.std.specs.Prelude.{ℕ, suc, ◌+◌, ◌<◌, ◌≡◌, true, false, List, eqb, length}
use Rattle.std.proofs.Math.Option.{Option, some}
use Rattle.entity.specs.Logic.{pick}
use Rattle.reginfo.specs.RegInfo.{RegInfo}
use Rattle.function.specs.Function.{Function}
use Rattle.rules.specs.Order.{KeptMove, ParallelMoves, is_pending, value, carried, emit, divert, undivert_all}
use Rattle.machine.specs.Paid.{Paid}
use Rattle.carried.specs.Carried as rows
use Rattle.scratch.specs.declared.ScratchAllocator.{ScratchAllocator}
use Rattle.scratch.specs.State.{T, F}
use Rattle.visits.specs.Marks.{moves_of, is_done}
use Rattle.closing.specs.State.{Work, Stands}

-- "its value is diverted: a live diversion of that value keeps its scratch and its first source"
unfoldable pub lead_diverted : RegInfo → Function → List KeptMove → ℕ → ParallelMoves → Option ParallelMoves
lead_diverted t f ms i w = pick (eqb (w.diverted.ref_count (value t f ms i)) 0) (divert t f ms i (carried t f ms i w)) (emit t f ms i (w.scratch (value t f ms i)) (carried t f ms i w))

module _ (t f cache e : List ℕ) where
  abbrev pub PaidFor : ℕ → ParallelMoves → Type 0
  PaidFor a p = Paid (T t) (F f) (moves_of e) a p

  -- the rules go on from p, and the tables stand for where they go
  pub record Gone (step : ParallelMoves → Option ParallelMoves) (p : ParallelMoves) (k : ScratchAllocator) (w : Work) : Type 0 where
    pub next : ParallelMoves
    pub is : step p ≡ some next
    pub stands : Stands t f cache e 0 next k w

  -- before a closed move is emitted: 8 edits and 8 rows are left for it
  pub record Leads (m : ℕ) (p : ParallelMoves) (k : ScratchAllocator) (w : Work) : Type 0 where
    pub stands : Stands t f cache e 8 p k w
    pub paid : PaidFor 1016 p
    pub closed : is_pending (p.state m) ≡ false

  -- a move emitted: what the rows say of a move that is not open stays said
  pub record Led (step : ParallelMoves → Option ParallelMoves) (p : ParallelMoves) (w : Work) (k' : ScratchAllocator) (w' : Work) : Type 0 where
    pub gone : Gone step p k' w'
    pub still :
        (x : ℕ) → is_pending (p.state x) ≡ false → p.diverted.values x ≡ rows.carried_by w.carried x
        → gone.next.diverted.values x ≡ rows.carried_by w'.carried x

  -- while the move m, which is closed, lets go of what it carries: the n rows from i on are left
  pub record LetsGo (m i n : ℕ) (p : ParallelMoves) (k : ScratchAllocator) (w : Work) : Type 0 where
    pub stands : Stands t f cache e 0 p k w
    pub paid : PaidFor 1024 p
    pub closed : is_done (p.state m) ≡ true
    pub kept : m < length (moves_of e)
    pub left : p.diverted.values m ≡ rows.rows_of w.carried i n m
    pub within : i + n ≡ rows.count_of w.carried

  -- row i is dealt with
  pub record RowGone (m i n : ℕ) (p : ParallelMoves) (w : Work) (k' : ScratchAllocator) (w' : Work) : Type 0 where
    pub next : ParallelMoves
    pub is :
        undivert_all (T t) (F f) (moves_of e) m (rows.rows_of w.carried i (suc n) m) p
        ≡ undivert_all (T t) (F f) (moves_of e) m (rows.rows_of w.carried (i + 1) n m) next
    pub lets : LetsGo m (i + 1) n next k' w'

  -- before a move closes: it is not closed, and 8 edits are left for it
  pub record Closes (m : ℕ) (p : ParallelMoves) (k : ScratchAllocator) (w : Work) : Type 0 where
    pub stands : Stands t f cache e 0 p k w
    pub paid : PaidFor 1016 p
    pub unclosed : is_done (p.state m) ≡ false

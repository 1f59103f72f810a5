-- What the edits that the kept moves can still need are paid from: the bound of demand 3, move by move. Each move that is not visited has 8 edits to
-- its credit, each live diversion 4, for its copy; each edit made and each save owed is paid from these. So the sum never grows, and no step has to
-- count on its own.
use Rattle.std.specs.Prelude.{ℕ, zero, suc, ◌+◌, ◌*◌, ◌<◌, ◌≤◌, ◌≡◌, List, [], ◌∷◌, eqb, length}
use Rattle.reginfo.specs.RegInfo.{RegInfo}
use Rattle.function.specs.Function.{Function, num_values}
use Rattle.rules.specs.Counts.{bit, sum, news}
use Rattle.rules.specs.Scratch.{ScratchAllocator}
use Rattle.rules.specs.Order.{KeptMove, Diverted, ParallelMoves}

-- the edits made, and those still owed: each evicted register will be saved
-- Counted when it is evicted, so that bringing it back costs nothing, whenever that is.
abbrev pub owed : ScratchAllocator → ℕ
owed k = length k.edits + length k.evicted

-- how often x is listed
unfoldable pub occurs : ℕ → List ℕ → ℕ
occurs x [] = 0
occurs x (y ∷ l) = bit (eqb x y) + occurs x l

-- 1 unless 0
unfoldable pub sign : ℕ → ℕ
sign zero = 0
sign (suc n) = 1

module _ (t : RegInfo) (f : Function) where
  -- the diversions that live
  unfoldable pub live : Diverted → ℕ
  live d = sum (λ v. sign (d.ref_count v)) (num_values f)

  module _ (ms : List KeptMove) where
    -- each value's count is how often it is carried, and only values there are
    -- Without this a diversion could end with nothing to pay its copy from, or be counted twice.
    pub record Counted (d : Diverted) : Type 0 where
      pub counts : (v : ℕ) → d.ref_count v ≡ sum (λ m. occurs v (d.values m)) (length ms)
      pub small : (v : ℕ) → 0 < d.ref_count v → v < num_values f

    -- edits made and owed, 4 for each diversion that lives and 8 for each move not visited
    -- Emitting a move takes at most 4: two moves, a reload and the save owed for it. So a move that is visited pays for its own emission and has 4
    -- left, with which it can begin one diversion.
    abbrev pub spent : ParallelMoves → ℕ
    spent w = owed w.allocator + (4 * live w.diverted + 8 * news (length ms) w.state)

    -- at most a are spent
    pub record Paid (a : ℕ) (w : ParallelMoves) : Type 0 where
      pub paid : spent w ≤ a
      pub counted : Counted w.diverted

-- The edits made and owed, and the room that they leave.
use Prim.Native.Nat.{ℕ, suc, ◌+◌, ◌<◌, ◌≤◌}
use mathlib.Core.Path.{◌≡◌, ap}
use mathlib.Core.Bool.{false}
use mathlib.Core.List.{List}
use native.Mathlib.Omega.{arith}
use Rattle.entity.specs.Logic.{no}
use Rattle.rules.specs.Edit.{updated}
use Rattle.rules.specs.Order.{State, Done, ParallelMoves}
use Rattle.rules.proofs.Steps.{updated-same, updated-other}
use Rattle.rules.specs.Counts.{bit}
use Rattle.rules.proofs.Sum.{sum-change}
use Rattle.machine.specs.Paid as machine
use Rattle.edit.specs.Buffer.{count_of}
use Rattle.scratch.proofs.Bounds as bounds
use Rattle.scratch.proofs.Unlimited.{owed-is}
use Rattle.scratch.specs.declared.ScratchAllocator.{ScratchAllocator}
use Rattle.scratch.specs.State.{evicted_in, owed}
use Rattle.scratch.specs.Promises.{Tables, FitsIn}
use Rattle.visits.specs.Marks.{is_done}
use Rattle.closing.specs.State.{Work, Stands, unclosed}
use Rattle.closing.specs.Steps.{PaidFor}

module _ (t f cache : List ℕ) where
  -- the same tables, with room for n edits
  pub refit : {a b m : ℕ} (n : ℕ) (k : ScratchAllocator) (w : Tables) → FitsIn t f cache a b m k w → count_of w.edits + owed (evicted_in k) + n ≤ 1024 → FitsIn t f cache a b n k w
  refit n k w h few = bounds.refit n few h

  -- what is paid for leaves room
  pub roomy : (e : List ℕ) (rows a n : ℕ) (p : ParallelMoves) (k : ScratchAllocator) (w : Work) → Stands t f cache e rows p k w → PaidFor t f cache e a p → a + n ≤ 1024 → FitsIn t f cache 0 2 n k w.tables
  roomy e rows a n p k w s paid h = refit n k w.tables s.fits (omega (arith, paid.paid, ap machine.owed s.allocator, owed-is t f cache k w.tables))

open-bit : (s : State) → is_done s ≡ false → bit (no (is_done s)) ≡ 1
unfolding bit
open-bit s e = rw e

-- to close a move leaves one less
pub unclosed-done : (n i : ℕ) (s : ℕ → State) → i < n → is_done (s i) ≡ false → unclosed n s ≡ suc (unclosed n (updated i Done s))
unfolding unclosed bit
unclosed-done n i s il e =
    omega (
      arith,
      sum-change (λ m. bit (no (is_done (updated i Done s m)))) (λ m. bit (no (is_done (s m)))) n i il (λ k d. ap (λ (z : State). bit (no (is_done z))) (updated-other i Done s k d)),
      ap (λ (z : State). bit (no (is_done z))) (updated-same i Done s),
      open-bit (s i) e,
    )

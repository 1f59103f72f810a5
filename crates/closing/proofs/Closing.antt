-- A move closes.
use Prim.Native.Nat.{ℕ, ◌<◌}
use mathlib.Core.Path.{◌≡◌, sym, ap, subst, ◌∙◌}
use mathlib.Core.Bool.{false, false≢true}
use mathlib.Core.List.{List}
use native.Mathlib.Omega.{arith}
use lib.ListN.{length}
use Rattle.rules.specs.Edit.{updated, and_then}
use Rattle.rules.specs.Order.{State, Done, is_pending, ParallelMoves, with_state, lead, undivert_all, close}
use Rattle.rules.proofs.Steps.{All, updated-at, updated-same}
use Rattle.machine.specs.Paid.{Paid}
use Rattle.machine.proofs.Bound.{done-paid, lead-paid}
use Rattle.carried.specs.Carried.{count_of}
use Rattle.scratch.specs.declared.ScratchAllocator.{ScratchAllocator}
use Rattle.scratch.specs.State.{T, F}
use Rattle.visits.specs.Marks.{moves_of, states_of, is_done, is_noted}
use Rattle.closing.specs.State.{Work, MovesOk}
use Rattle.closing.specs.Steps.{PaidFor, Gone, Leads, Led, LetsGo, Closes}
use Rattle.scratch.proofs.Unlimited.{all_placed}
use Rattle.closing.proofs.Room.{unclosed-done}

abbrev marked : Work → List ℕ → Work
marked w marks = record { tables = w.tables; sources = w.sources; diverted = w.diverted; marks = marks; carried = w.carried }

module _ (t f cache e : List ℕ) (m : ℕ) (low : m < length (moves_of e)) (p : ParallelMoves) (k : ScratchAllocator) (w : Work) (h : Closes t f cache e m p k w) (ok : MovesOk t f e)
    (marks : List ℕ) (states : states_of marks ≡ updated m Done (states_of w.marks)) (noted : is_noted marks ≡ is_noted w.marks) where
  abbrev done : ParallelMoves
  done = with_state m Done p

  -- the others are as they were
  was-open : (x : ℕ) → is_done (done.state x) ≡ false → is_done (p.state x) ≡ false
  was-open x = updated-at (λ s. is_done s ≡ false → is_done (p.state x) ≡ false) m Done p.state x (λ _ e. absurd (false≢true (sym e))) (λ _ e. e)

  -- the move is marked, and may be emitted
  pub leads : Leads t f cache e m done k (marked w marks)
  leads =
      record {
        stands =
            record {
              allocator = h.stands.allocator;
              state = ap (updated m Done) h.stands.state ∙ sym states;
              sources = λ q. h.stands.sources (sym noted ∙ q);
              diversions = record { counts = h.stands.diversions.counts; live = λ y ky pos. let l = h.stands.diversions.live y ky pos in record { alloc = l.alloc; scratch = l.scratch; alloc-fits = l.alloc-fits; scratch-fits = l.scratch-fits } };
              values = h.stands.values;
              counted = h.stands.counted;
              carried = λ x q. h.stands.carried x (was-open x q);
              room = omega (arith, h.stands.room, unclosed-done (length (moves_of e)) m p.state low h.unclosed);
              fits = h.stands.fits;
            };
        paid = done-paid (T t) (F f) ok.checked.target (all_placed t f ok.checked) (moves_of e) ok.named m low 1016 p h.paid;
        closed = ap is_pending (updated-same m Done p.state);
      }

  module _ (k₁ : ScratchAllocator) (w₁ : Work) (led : Led t f cache e (lead (T t) (F f) (moves_of e) m) done (marked w marks) k₁ w₁) (states₁ : states_of w₁.marks ≡ states_of marks) where
    paid₁ : PaidFor t f cache e 1024 led.gone.next
    paid₁ =
        subst (All (Paid (T t) (F f) (moves_of e) 1024)) led.gone.is
        (lead-paid (T t) (F f) ok.checked.target (all_placed t f ok.checked) (moves_of e) ok.named m low 1016 1024 done leads.paid (omega arith))

    -- what it carries is left to let go
    pub lets : LetsGo t f cache e m 0 (count_of w₁.carried) led.gone.next k₁ w₁
    lets =
        record {
          stands = led.gone.stands;
          paid = paid₁;
          closed = ap (λ (g : ℕ → State). is_done (g m)) (led.gone.stands.state ∙ states₁ ∙ states) ∙ ap is_done (updated-same m Done (states_of w.marks));
          kept = low;
          left = led.still m leads.closed (h.stands.carried m h.unclosed);
          within = omega arith;
        }

    pub closes : (k₂ : ScratchAllocator) (w₂ : Work) → Gone t f cache e (undivert_all (T t) (F f) (moves_of e) m (led.gone.next.diverted.values m)) led.gone.next k₂ w₂ → Gone t f cache e (close (T t) (F f) (moves_of e) m) p k₂ w₂
    unfolding close and_then
    closes k₂ w₂ g = record { next = g.next; is = rw led.gone.is g.is; stands = g.stands }

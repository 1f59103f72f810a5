-- A move opens.
use Prim.Native.Nat.{ℕ, suc, ◌<◌, ◌≤◌}
use mathlib.Core.Path.{◌≡◌, refl, sym, ap, ◌∙◌}
use mathlib.Core.Bool.{true, false}
use mathlib.Core.List.{List}
use native.Mathlib.Omega.{arith}
use lib.ListN.{length}
use Rattle.entity.specs.Logic.{no}
use Rattle.rules.specs.Edit.{updated}
use Rattle.rules.specs.Order.{State, New, Pending, Done, ParallelMoves, is_new, with_state}
use Rattle.rules.specs.Counts.{news}
use Rattle.rules.proofs.News.{news-open}
use Rattle.rules.proofs.Steps.{updated-at}
use Rattle.rules.proofs.Sum.{bit_le, sum-le}
use Rattle.machine.proofs.Bound.{opened}
use Rattle.scratch.specs.declared.ScratchAllocator.{ScratchAllocator}
use Rattle.scratch.specs.State.{T, F}
use Rattle.visits.specs.Marks.{moves_of, states_of, is_done, is_noted}
use Rattle.closing.specs.State.{Work, MovesOk, unclosed, Stands}
use Rattle.closing.specs.Steps.{PaidFor}
use Rattle.scratch.proofs.Unlimited.{all_placed}
use Rattle.visiting.specs.Steps.{Visits}

abbrev pub with_marks : List ℕ → Work → Work
with_marks marks w = record { tables = w.tables; sources = w.sources; diverted = w.diverted; marks = marks; carried = w.carried }

new-open : (s : State) → is_new s ≡ true → is_done s ≡ false
new-open New e = refl
new-open Pending e = refl
new-open Done e = sym e

-- what is not closed is the same before a new move opens
module _ (m : ℕ) (s : ℕ → State) (new : is_new (s m) ≡ true) where
  was-unclosed : (x : ℕ) → is_done (updated m Pending s x) ≡ false → is_done (s x) ≡ false
  was-unclosed x = updated-at (λ z. is_done z ≡ false → is_done (s x) ≡ false) m Pending s x (λ e _. ap (λ y. is_done (s y)) e ∙ new-open (s m) new) (λ _ h. h)

  unclosed-kept : (n : ℕ) → unclosed n (updated m Pending s) ≤ unclosed n s
  unfolding unclosed
  unclosed-kept n =
      sum-le _ _ n
      (λ x l. bit_le _ _ (updated-at (λ z. no (is_done z) ≡ true → no (is_done (s x)) ≡ true) m Pending s x (λ e _. ap (λ y. no (is_done (s y))) e ∙ ap no (new-open (s m) new)) (λ _ h. h)))

pub paid-more : (t f cache e : List ℕ) (a b : ℕ) (p : ParallelMoves) → a ≤ b → PaidFor t f cache e a p → PaidFor t f cache e b p
paid-more t f cache e a b p h q = record { paid = omega (arith, q.paid); counted = q.counted }

-- a new move opens
module _ (t f cache e : List ℕ) (ok : MovesOk t f e) (m : ℕ) (low : m < length (moves_of e)) (p : ParallelMoves) (k : ScratchAllocator) (w : Work) (v : Visits t f cache e p k w) (new : is_new (states_of w.marks m) ≡ true) where
  pub new-here : is_new (p.state m) ≡ true
  new-here = ap (λ (s : ℕ → State). is_new (s m)) v.stands.state ∙ new

  -- its 8 edits are left for it
  pub opened-paid : PaidFor t f cache e 1016 (with_state m Pending p)
  opened-paid =
      record { paid = omega (arith, v.paid.paid, opened (T t) (F f) ok.checked.target (all_placed t f ok.checked) (moves_of e) ok.named m low p new-here); counted = v.paid.counted }

  pub opened-news : news (length (moves_of e)) p.state ≡ suc (news (length (moves_of e)) (with_state m Pending p).state)
  opened-news = news-open (length (moves_of e)) m p.state low new-here

  module _ (marks : List ℕ) (is : states_of marks ≡ updated m Pending (states_of w.marks)) (noted : is_noted marks ≡ is_noted w.marks) where
    opened-stands : Stands t f cache e 0 (with_state m Pending p) k (with_marks marks w)
    opened-stands =
        record {
          allocator = v.stands.allocator;
          state = ap (updated m Pending) v.stands.state ∙ sym is;
          sources = λ h. v.stands.sources (sym noted ∙ h);
          diversions =
              record {
                counts = v.stands.diversions.counts;
                live = λ x a b. let l = v.stands.diversions.live x a b in record { alloc = l.alloc; scratch = l.scratch; alloc-fits = l.alloc-fits; scratch-fits = l.scratch-fits };
              };
          values = v.stands.values;
          counted = v.stands.counted;
          carried = λ x h. v.stands.carried x (was-unclosed m p.state new-here x h);
          room = omega (arith, v.stands.room, unclosed-kept m p.state new-here (length (moves_of e)));
          fits = v.stands.fits;
        }

    pub opened-visits : Visits t f cache e (with_state m Pending p) k (with_marks marks w)
    opened-visits = record { stands = opened-stands; paid = paid-more t f cache e 1016 1024 (with_state m Pending p) (omega arith) opened-paid }

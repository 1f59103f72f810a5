-- A visit: the move opens, its writers are visited, and it closes.
use Prim.Native.Nat.{ℕ, zero, suc, ◌<◌, ◌≤◌}
use mathlib.Core.Path.{◌≡◌, ap, subst, ◌∙◌}
use mathlib.Core.Bool.{true, false}
use mathlib.Core.List.{List, reverse}
use mathlib.Core.Option.{Option, some}
use native.Mathlib.Omega.{arith}
use lib.ListN.{length}
use Rattle.rules.specs.Edit.{updated, and_then, each}
use Rattle.rules.specs.Order.{State, Pending, Done, ParallelMoves, is_new, with_state, writers, close, visit}
use Rattle.rules.specs.Counts.{news}
use Rattle.rules.proofs.Steps.{All, every-reverse, all-each}
use Rattle.rules.proofs.Writers.{writers-low}
use Rattle.machine.proofs.Bound.{visit-paid}
use Rattle.scratch.specs.declared.ScratchAllocator.{ScratchAllocator}
use Rattle.scratch.specs.State.{T, F}
use Rattle.visits.specs.Marks.{moves_of, states_of, is_done, is_noted}
use Rattle.closing.specs.State.{Work, MovesOk}
use Rattle.closing.specs.Steps.{PaidFor, Gone, Closes}
use Rattle.scratch.proofs.Unlimited.{all_placed}
use Rattle.visiting.specs.Steps.{Visits, Visited}
use Rattle.visiting.proofs.Stay.{stay_none, still_open, visit-stays}
use Rattle.visiting.proofs.Opened.{with_marks, new-here, opened-paid, opened-news, opened-visits}

module _ (t f cache e : List ℕ) where
  abbrev pub visit_for : ℕ → ℕ → ParallelMoves → Option ParallelMoves
  visit_for = visit (T t) (F f) (moves_of e)

  abbrev pub walk_for : ℕ → ℕ → ParallelMoves → Option ParallelMoves
  walk_for m depth = each (visit_for depth) (reverse (writers (T t) (F f) (moves_of e) m))

  visit-skips : (depth m : ℕ) (p : ParallelMoves) → is_new (p.state m) ≡ false → visit_for depth m p ≡ some p
  unfolding visit
  visit-skips zero m p h = rw h
  visit-skips (suc n) m p h = rw h

  visit-steps : (depth m : ℕ) (p q r : ParallelMoves) → is_new (p.state m) ≡ true → walk_for m depth (with_state m Pending p) ≡ some q → close (T t) (F f) (moves_of e) m q ≡ some r → visit_for (suc depth) m p ≡ some r
  unfolding visit and_then
  visit-steps depth m p q r new a b = rw (new, a) b

  -- a move that is visited already
  pub old-skips : (depth m : ℕ) (p : ParallelMoves) (k : ScratchAllocator) (w : Work) → is_new (states_of w.marks m) ≡ false → Visits t f cache e p k w → visit_for depth m p ≡ some p
  old-skips depth m p k w old v = visit-skips depth m p (ap (λ (s : ℕ → State). is_new (s m)) v.stands.state ∙ old)

  pub visited-already : (m : ℕ) (k : ScratchAllocator) (w : Work) → is_new (states_of w.marks m) ≡ false → Visited t f cache e (λ depth. visit_for depth m) k w k w
  visited-already m k w old = record { stay = stay_none w.marks; goes = λ p depth v _. record { next = p; is = old-skips depth m p k w old v; stands = v.stands } }

  module _ (ok : MovesOk t f e) where
    pub visit-paid-here : (a depth m : ℕ) (p : ParallelMoves) → m < length (moves_of e) → PaidFor t f cache e a p → All (PaidFor t f cache e a) (visit_for depth m p)
    visit-paid-here a depth m p l q = visit-paid (T t) (F f) ok.checked.target (all_placed t f ok.checked) (moves_of e) ok.named depth a m p l q

    walk-paid : (a depth m : ℕ) (p q : ParallelMoves) → PaidFor t f cache e a p → walk_for m depth p ≡ some q → PaidFor t f cache e a q
    walk-paid a depth m p q h is =
        subst (All (PaidFor t f cache e a)) is
        (all-each (PaidFor t f cache e a) (λ x. x < length (moves_of e)) (visit_for depth) (λ x r l h'. visit-paid-here a depth x r l h') (reverse (writers (T t) (F f) (moves_of e) m))
        (every-reverse (λ x. x < length (moves_of e)) (writers (T t) (F f) (moves_of e) m) (writers-low (T t) (F f) (moves_of e) m)) p h)

    -- its writers are visited
    module _ (m : ℕ) (low : m < length (moves_of e)) (k k' : ScratchAllocator) (w w' : Work) (new : is_new (states_of w.marks m) ≡ true) (marks : List ℕ) (is : states_of marks ≡ updated m Pending (states_of w.marks))
        (noted : is_noted marks ≡ is_noted w.marks) (walked : Visited t f cache e (walk_for m) k (with_marks marks w) k' w') where
      module _ (p : ParallelMoves) (v : Visits t f cache e p k w) (depth : ℕ) (h : news (length (moves_of e)) p.state ≤ suc depth) where
        gone : Gone t f cache e (walk_for m depth) (with_state m Pending p) k' w'
        gone = walked.goes (with_state m Pending p) depth (opened-visits t f cache e ok m low p k w v new marks is noted) (omega (arith, opened-news t f cache e ok m low p k w v new))

        closes : Closes t f cache e m gone.next k' w'
        closes =
            record {
              stands = gone.stands;
              paid = walk-paid 1016 depth m (with_state m Pending p) gone.next (opened-paid t f cache e ok m low p k w v new) gone.is;
              unclosed = ap is_done (ap (λ (s : ℕ → State). s m) gone.stands.state ∙ still_open m w.marks marks w'.marks is walked.stay);
            }

      pub can-close : (p : ParallelMoves) → Visits t f cache e p k w → (q : ParallelMoves) × Closes t f cache e m q k' w'
      can-close p v = let h : news (length (moves_of e)) p.state ≤ suc (news (length (moves_of e)) p.state) = omega arith in ((gone p v _ h).next, closes p v _ h)

      module _ (k'' : ScratchAllocator) (w'' : Work) (done : states_of w''.marks ≡ updated m Done (states_of w'.marks))
          (closed : (p : ParallelMoves) → Closes t f cache e m p k' w' → Gone t f cache e (close (T t) (F f) (moves_of e) m) p k'' w'') where
        visit-goes : (p : ParallelMoves) (depth : ℕ) → Visits t f cache e p k w → news (length (moves_of e)) p.state ≤ depth → Gone t f cache e (visit_for depth m) p k'' w''
        visit-goes p zero v h = absurd (omega (arith, opened-news t f cache e ok m low p k w v new))
        visit-goes p (suc depth) v h =
            let l = closed (gone p v depth h).next (closes p v depth h) in
            record { next = l.next; is = visit-steps depth m p (gone p v depth h).next l.next (new-here t f cache e ok m low p k w v new) (gone p v depth h).is l.is; stands = l.stands }

        pub visited : Visited t f cache e (λ depth. visit_for depth m) k w k'' w''
        visited = record { stay = visit-stays m w.marks marks w'.marks is walked.stay w''.marks new done; goes = visit-goes }

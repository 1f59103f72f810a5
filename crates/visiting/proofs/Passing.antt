-- The two passes over the kept moves.
use Prim.Native.Nat.{ℕ, ◌+◌, ◌-◌, ◌<◌, ◌≤◌}
use mathlib.Core.Path.{◌≡◌, refl, ap, subst, ◌∙◌}
use mathlib.Core.Bool.{true, false}
use mathlib.Core.List.{List}
use mathlib.Core.Option.{Option, some}
use native.Mathlib.Omega.{arith}
use lib.ListN.{length, get_or}
use Rattle.entity.specs.Logic.{or, indices}
use Rattle.entity.proofs.Laws.{indices_step}
use Rattle.reginfo.specs.RegInfo.{is_memory}
use Rattle.rules.specs.Edit.{and_then, each}
use Rattle.rules.specs.Order.{ParallelMoves, is_new, no_move, visit_unless_memory}
use Rattle.rules.proofs.News.{news-all}
use Rattle.rules.proofs.Steps.{All, branch}
use Rattle.machine.proofs.Bound.{first-paid}
use Rattle.scratch.specs.declared.ScratchAllocator.{ScratchAllocator}
use Rattle.scratch.specs.State.{T, F}
use Rattle.visits.specs.Marks.{moves_of, states_of}
use Rattle.closing.specs.State.{Work, MovesOk}
use Rattle.closing.specs.Steps.{PaidFor}
use Rattle.scratch.proofs.Unlimited.{all_placed}
use Rattle.visiting.specs.Steps.{Visits, Visited, Passed}
use Rattle.visiting.proofs.Visited.{visit_for, old-skips, visited-already, visit-paid-here}

module _ (t f cache e : List ℕ) where
  abbrev n : ℕ
  n = length (moves_of e)

  abbrev pub first_for : ℕ → ParallelMoves → Option ParallelMoves
  first_for = visit_unless_memory (T t) (F f) (moves_of e)

  -- at a root the bound on the depth is never met
  pub root-visited : (m : ℕ) (k k' : ScratchAllocator) (w w' : Work) → Visited t f cache e (λ depth. visit_for t f cache e depth m) k w k' w' → Passed t f cache e (visit_for t f cache e n m) k w k' w'
  root-visited m k k' w w' d = record { goes = λ p v. d.goes p n v (news-all n p.state) }

  module _ (m : ℕ) (k : ScratchAllocator) (w : Work) where
    pub memory-skipped : or (is_memory (T t) (get_or (moves_of e) m no_move).source) (is_memory (T t) (get_or (moves_of e) m no_move).dest) ≡ true → Passed t f cache e (first_for m) k w k w
    unfolding visit_unless_memory
    memory-skipped h = record { goes = λ p v. record { next = p; is = rw h; stands = v.stands } }

    pub other-visited : (k' : ScratchAllocator) (w' : Work) → or (is_memory (T t) (get_or (moves_of e) m no_move).source) (is_memory (T t) (get_or (moves_of e) m no_move).dest) ≡ false
        → Visited t f cache e (λ depth. visit_for t f cache e depth m) k w k' w' → Passed t f cache e (first_for m) k w k' w'
    unfolding visit_unless_memory
    other-visited k' w' h d = record { goes = λ p v. let g = (root-visited m k k' w w' d).goes p v in record { next = g.next; is = rw h g.is; stands = g.stands } }

  -- where nothing is to be done, skipped or not
  first-skips : (m : ℕ) (p : ParallelMoves) → visit_for t f cache e n m p ≡ some p → first_for m p ≡ some p
  unfolding visit_unless_memory
  first-skips m p h =
      branch (λ (x : Option ParallelMoves). x ≡ some p) (or (is_memory (T t) (get_or (moves_of e) m no_move).source) (is_memory (T t) (get_or (moves_of e) m no_move).dest)) (some p) (visit_for t f cache e n m p) (λ _. refl) (λ _. h)

  -- a root that is visited already
  module _ (m : ℕ) (k : ScratchAllocator) (w : Work) (old : is_new (states_of w.marks m) ≡ false) where
    pub second-old : Passed t f cache e (visit_for t f cache e n m) k w k w
    second-old = root-visited m k k w w (visited-already t f cache e m k w old)

    pub first-old : Passed t f cache e (first_for m) k w k w
    first-old = record { goes = λ p v. record { next = p; is = first-skips m p (old-skips t f cache e n m p k w old v); stands = v.stands } }

  module _ (ok : MovesOk t f e) where
    pub first-paid-here : (m : ℕ) (p : ParallelMoves) → m < n → PaidFor t f cache e 1024 p → All (PaidFor t f cache e 1024) (first_for m p)
    first-paid-here m p l q = first-paid (T t) (F f) ok.checked.target (all_placed t f ok.checked) (moves_of e) ok.named 1024 m p l q

    pub second-paid-here : (m : ℕ) (p : ParallelMoves) → m < n → PaidFor t f cache e 1024 p → All (PaidFor t f cache e 1024) (visit_for t f cache e n m p)
    second-paid-here m p l q = visit-paid-here t f cache e ok 1024 n m p l q

  -- a pass whose steps leave the rest of the edits paid for
  module _ (step : ℕ → ParallelMoves → Option ParallelMoves) where
    -- the pass from p, and where it stands
    pub record PassAt (i : ℕ) (p : ParallelMoves) (k : ScratchAllocator) (now : Work) : Type 0 where
      pub at : ParallelMoves
      pub is : each step (indices 0 n) p ≡ each step (indices i (n - i)) at
      pub visits : Visits t f cache e at k now

    pub record Passing (k₀ : ScratchAllocator) (w₀ : Work) (i : ℕ) (k : ScratchAllocator) (now : Work) : Type 0 where
      pub within : i ≤ n
      pub goes : (p : ParallelMoves) → Visits t f cache e p k₀ w₀ → PassAt i p k now

    module _ (k₀ : ScratchAllocator) (w₀ : Work) where
      pub passing-start : Passing k₀ w₀ 0 k₀ w₀
      passing-start = record { within = omega arith; goes = λ p v. record { at = p; is = let z : n ≡ n - 0 = omega arith in ap (λ (l : ℕ). each step (indices 0 l) p) z; visits = v } }

      module _ (i : ℕ) (k : ScratchAllocator) (now : Work) (g : Passing k₀ w₀ i k now) where
        pub can-step : (p : ParallelMoves) → Visits t f cache e p k₀ w₀ → (q : ParallelMoves) × Visits t f cache e q k now
        can-step p v = let o = g.goes p v in (o.at, o.visits)

        pub passing-end : n ≤ i → Passed t f cache e (each step (indices 0 n)) k₀ w₀ k now
        unfolding each indices
        passing-end h =
            let z : n - i ≡ 0 = omega arith in
            record { goes = λ p v. let o = g.goes p v in record { next = o.at; is = o.is ∙ ap (λ (l : ℕ). each step (indices i l) o.at) z; stands = o.visits.stands } }

        pub passing_step : i < n → ((m : ℕ) (p : ParallelMoves) → m < n → PaidFor t f cache e 1024 p → All (PaidFor t f cache e 1024) (step m p)) → (k' : ScratchAllocator) (now' : Work) → Passed t f cache e (step i) k now k' now' → Passing k₀ w₀ (i + 1) k' now'
        unfolding each and_then
        passing_step l pays k' now' d = record { within = omega arith; goes = λ p v. on p (g.goes p v) }
          where
            one : (a b : ParallelMoves) → step i a ≡ some b → each step (indices i (n - i)) a ≡ each step (indices (i + 1) (n - (i + 1))) b
            one a b q = let z : n - i - 1 ≡ n - (i + 1) = omega arith in rw (indices_step i (n - i) (omega arith), q, z)

            on : (p : ParallelMoves) → PassAt i p k now → PassAt (i + 1) p k' now'
            on p o =
                let x = d.goes o.at o.visits in
                record {
                  at = x.next;
                  is = o.is ∙ one o.at x.next x.is;
                  visits = record { stands = x.stands; paid = subst (All (PaidFor t f cache e 1024)) x.is (pays i o.at l o.visits.paid) };
                }

-- All kept moves, from the tables as they start to the evicted register saved.
use Prim.Native.Nat.{ℕ, ◌+◌, ◌*◌, ◌<◌, ◌≤◌}
use mathlib.Core.Path.{◌≡◌, refl, sym, ap, subst, ◌∙◌}
use mathlib.Core.Bool.{true, false, false≢true}
use mathlib.Core.List.{List, []}
use mathlib.Core.Option.{some}
use native.Mathlib.Omega.{arith}
use lib.ListN.{length, get_or}
use Rattle.entity.specs.Logic.{no, has, indices}
use Rattle.rules.specs.Edit.{and_then, each}
use Rattle.rules.specs.Scratch as rules
use Rattle.rules.specs.Scratch.{unevict_all, with_evicted}
use Rattle.rules.specs.Order.{ParallelMoves, State, New, no_move, start, moves}
use Rattle.rules.proofs.Steps.{All, every-index, all-each}
use Rattle.rules.specs.Counts.{bit}
use Rattle.rules.proofs.Sum.{bit_le, sum-le, sum_ones}
use Rattle.machine.specs.Paid.{owed}
use Rattle.rules.proofs.Evictions.{unevict-evicted}
use Rattle.machine.proofs.Bound as bound
use Rattle.carried.specs.Carried as rows
use Rattle.reginfo.specs.RegInfo.{RegInfo}
use Rattle.scratch.specs.declared.Evicted.{Evicted}
use Rattle.scratch.specs.declared.Evicted.TheVariants.{Nothing, One, Two}
use Rattle.scratch.specs.declared.ScratchAllocator.{ScratchAllocator}
use Rattle.scratch.specs.State.{T, F, evicted_in, evicted_of, Fits}
use Rattle.scratch.specs.Promises.{Tables, state_of, FitsIn, Brought}
use Rattle.scratch.proofs.Bounds.{fewer}
use Rattle.visits.specs.Marks.{moves_of, states_of, all_new, is_done, is_noted}
use Rattle.closing.specs.State.{Work, MovesOk, unclosed, Stands}
use Rattle.closing.specs.Steps.{PaidFor, Gone}
use Rattle.scratch.proofs.Unlimited.{all_placed, owed-is}
use Rattle.visiting.specs.Steps.{Visits, Passed, Moves}
use Rattle.visiting.proofs.Opened.{paid-more}
use Rattle.visiting.proofs.Visited.{visit_for}
use Rattle.visiting.proofs.Passing.{first_for, first-paid-here}

nothing-evicted : (t : RegInfo) (e : Evicted) → evicted_of t e ≡ [] → e ≡ Nothing
nothing-evicted t Nothing q = refl
nothing-evicted t (One e) q = let z : ◌≡◌ {A = ℕ} 0 1 = cc in absurd (omega arith)
nothing-evicted t (Two e o) q = let z : ◌≡◌ {A = ℕ} 0 1 = cc in absurd (omega arith)

unclosed-all : (n : ℕ) (s : ℕ → State) → unclosed n s ≤ n
unfolding unclosed bit
unclosed-all n s = omega (arith, sum-le (λ m. bit (no (is_done (s m)))) (λ m. 1) n (λ m l. bit_le (no (is_done (s m))) true (λ _. refl)), sum_ones n)

module _ (t f cache e : List ℕ) (ok : MovesOk t f e) (k : ScratchAllocator) (w : Work) where
  abbrev n : ℕ
  n = length (moves_of e)

  -- the tables are cleared, and there is room for 8 edits for each move
  module _ (room : Fits 0 2 (8 * n) t k w.tables.edits w.tables.slots cache) (new : states_of w.marks ≡ all_new) (unnoted : is_noted w.marks ≡ false)
      (free : (i : ℕ) → i < n → get_or w.diverted (get_or (moves_of e) i no_move).value 0 ≡ 0) (empty : rows.count_of w.carried ≡ 0) (none : (m : ℕ) → rows.carried_by w.carried m ≡ []) where
    abbrev p₀ : ParallelMoves
    p₀ = start (T t) (F f) (moves_of e) (state_of t f cache k w.tables)

    uncounted : (v : ℕ) → ((i : ℕ) × (i < n) × ((get_or (moves_of e) i no_move).value ≡ v)) → get_or w.diverted v 0 ≡ 0
    uncounted v q = rw (← q.2) (free q.0 q.1)

    start-stands : Stands t f cache e 0 p₀ k w
    unfolding start all_new has
    start-stands =
        record {
          allocator = refl;
          state = sym new;
          sources = λ h. absurd (false≢true (sym unnoted ∙ h));
          diversions = record { counts = λ v q. sym (uncounted v q); live = λ v q h. absurd (omega (arith, uncounted v q)) };
          values = λ x v h. absurd (false≢true h);
          counted = λ v. omega arith;
          carried = λ x h. sym (none x);
          room = omega (arith, unclosed-all n (λ m. New), ok.kept.small.few);
          fits = fewer (omega arith) (omega arith) (omega arith) room;
        }

    start-paid : PaidFor t f cache e 1024 p₀
    start-paid =
        let q = bound.start-paid (T t) (F f) ok.checked.target (all_placed t f ok.checked) (moves_of e) ok.named (state_of t f cache k w.tables) in
        paid-more t f cache e (owed (state_of t f cache k w.tables) + 8 * n) 1024 p₀ (omega (arith, room.few, owed-is t f cache k w.tables)) q

    pub start-visits : Visits t f cache e p₀ k w
    start-visits = record { stands = start-stands; paid = start-paid }

    moves-are : (p q : ParallelMoves) → each (first_for t f cache e) (indices 0 n) p₀ ≡ some p → each (visit_for t f cache e n) (indices 0 n) p ≡ some q
        → moves (T t) (F f) (moves_of e) (state_of t f cache k w.tables) ≡ some (unevict_all (T t) (F f) q.allocator)
    unfolding moves and_then
    moves-are p q a b = rw (a, b)

    module _ (k₁ : ScratchAllocator) (w₁ : Work) (first : Passed t f cache e (each (first_for t f cache e) (indices 0 n)) k w k₁ w₁) where
      once : Gone t f cache e (each (first_for t f cache e) (indices 0 n)) p₀ k₁ w₁
      once = first.goes p₀ start-visits

      once-paid : PaidFor t f cache e 1024 once.next
      once-paid =
          subst (All (PaidFor t f cache e 1024)) once.is
          (all-each (PaidFor t f cache e 1024) (λ i. i < n) (first_for t f cache e) (λ i p l q. first-paid-here t f cache e ok i p l q) (indices 0 n) (every-index n 0 n (omega arith)) p₀ start-paid)

      once-visits : Visits t f cache e once.next k₁ w₁
      once-visits = record { stands = once.stands; paid = once-paid }

      pub first-passed : (p : ParallelMoves) × Visits t f cache e p k₁ w₁
      first-passed = (once.next, once-visits)

      module _ (k₂ : ScratchAllocator) (w₂ : Work) (second : Passed t f cache e (each (visit_for t f cache e n) (indices 0 n)) k₁ w₁ k₂ w₂) where
        twice : Gone t f cache e (each (visit_for t f cache e n) (indices 0 n)) once.next k₂ w₂
        twice = second.goes once.next once-visits

        pub second_fits : FitsIn t f cache 0 0 0 k₂ w₂.tables
        second_fits = fewer (omega arith) (omega arith) (omega arith) twice.stands.fits

        -- the evicted registers are saved
        module _ (k₃ : ScratchAllocator) (w₃ : Tables) (b : Brought t f cache k₂ w₂.tables k₃ w₃ (unevict_all (T t) (F f))) where
          saved : evicted_of (T t) (evicted_in k₃) ≡ []
          saved = ap (λ (x : rules.ScratchAllocator). x.evicted) b.is ∙ unevict-evicted (T t) (F f) (evicted_of (T t) (evicted_in k₂)) (with_evicted [] (state_of t f cache k₂ w₂.tables))

          pub all_moved : Moves t f cache e k w.tables k₃ w₃
          all_moved =
              record {
                is = moves-are once.next twice.next once.is twice.is ∙ rw (twice.stands.allocator, b.is);
                fits = b.fits 0 2 0 twice.stands.fits;
                saved = nothing-evicted (T t) (evicted_in k₃) saved;
              }

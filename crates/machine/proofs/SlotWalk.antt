-- The kept moves in depth count every slot once, those of the live diversions with their scratch places.
use Prim.Native.Nat.{ℕ, zero, suc, pred, ◌+◌, ◌<◌}
use mathlib.Core.Path.{◌≡◌, refl, sym, ap, subst, ◌∙◌}
use mathlib.Core.Bool.{true, false, false≢true}
use mathlib.Core.List.{List, [], ◌∷◌, reverse}
use mathlib.Core.Logic.{⊎_elim}
use native.Mathlib.Omega.{arith}
use lib.Dec.{eqb}
use lib.ListN.{length, get_or}
use borrow.Author.Tests.{eqb-true, eqb-false}
use Rattle.entity.specs.Logic.{or, any_in, indices}
use Rattle.entity.specs.Place.{Place}
use Rattle.reginfo.specs.RegInfo.{RegInfo, is_memory, spillslot_size, top_level_class}
use Rattle.reginfo.specs.Refused as target
use Rattle.function.specs.Function.{Function, num_values, value_bank}
use Rattle.rules.specs.Edit.{updated, and_then, each}
use Rattle.rules.specs.Scratch.{Cache, ScratchAllocator, with_evicted, unevict_all, get_scratch_reg, do_move}
use Rattle.rules.specs.Order.{KeptMove, no_move, State, Pending, Done, is_new, is_pending, Diverted, ParallelMoves, with_state, carry, source, dest, value, bank, writers, cycle_move_sources, emit, noted, divert, carried, lead, lost, undivert, undivert_all, close, visit, visit_unless_memory, start, moves}
use Rattle.rules.specs.Sorted.{MoveOk}
use Rattle.rules.proofs.Evictions.{unevict-evicted}
use Rattle.rules.proofs.Steps.{All, all_then, branch, same?, Every, every-reverse, every-index, all-each, updated-at, updated-same, updated-other}
use Rattle.rules.proofs.Writers.{writers-low}
use Rattle.rules.specs.Counts.{sum}
use Rattle.rules.proofs.Sum.{sum-change, sum-zero}
use Rattle.machine.specs.Paid.{occurs, Counted}
use Rattle.machine.proofs.Banked.{Banked}
use Rattle.machine.proofs.Diversions.{Grown, carry-grown, was-live, lost-counted}
use Rattle.machine.proofs.SlotCounts.{positive, holds, held, held-live, held-ended, waits, Count, stacked}
use Rattle.machine.proofs.SlotSteps.{Good, good-cong, Kept, kept-cong, all-good, place-good, Search, search-good, move-good}

module _ (t : RegInfo) (f : Function) (c₀ : Cache) (at : target.Accepted t) (af : Banked t f) (ms : List KeptMove) (ok : (i : ℕ) → i < length ms → MoveOk t f (get_or ms i no_move)) where
  abbrev n : ℕ
  n = length ms

  abbrev size : ℕ → ℕ
  size v = spillslot_size t (value_bank f v)

  -- the scratch places of the live diversions
  unfoldable pub diverted : (ℕ → ℕ) → (ℕ → Place) → Count
  diverted rc p s y = sum (λ v. held (rc v) (p v) (size v) s y) (num_values f)

  diverted-change : (v : ℕ) → v < num_values f → (rc rc' : ℕ → ℕ) (p p' : ℕ → Place) → ((x : ℕ) → (x ≡ v → ⊥) → rc' x ≡ rc x) → ((x : ℕ) → (x ≡ v → ⊥) → p' x ≡ p x)
      → (s y : ℕ) → diverted rc' p' s y + held (rc v) (p v) (size v) s y ≡ diverted rc p s y + held (rc' v) (p' v) (size v) s y
  unfolding diverted
  diverted-change v vl rc rc' p p' r q s y =
      sum-change (λ x. held (rc' x) (p' x) (size x) s y) (λ x. held (rc x) (p x) (size x) s y) (num_values f) v vl (λ x d. rw (r x d, q x d) refl)

  -- `loaded` are those that may carry although they are closed, `calm` those that are not open
  pub record Walk (loaded calm : ℕ → Type 0) (w : ParallelMoves) : Type 0 where
    pub good : Kept t f c₀ (diverted w.diverted.ref_count w.scratch) w.allocator
    pub counted : Counted t f ms w.diverted
    pub idle : (k : ℕ) → (loaded k → ⊥) → is_pending (w.state k) ≡ false → w.diverted.values k ≡ []
    pub still : (k : ℕ) → calm k → is_pending (w.state k) ≡ false

  module _ (loaded calm : ℕ → Type 0) where
    emit-walk : (i : ℕ) → i < n → (from : Place) (w : ParallelMoves) → Walk loaded calm w → All (Walk loaded calm) (emit t f ms i from w)
    emit-walk i il from w g =
        all_then (Kept t f c₀ (diverted w.diverted.ref_count w.scratch)) (Walk loaded calm) (do_move t f (bank t f ms (value t f ms i)) (dest t f ms i) from (value t f ms i) w.allocator) _
        (move-good t f c₀ at af (bank t f ms (value t f ms i)) (af.bank (value t f ms i) (ok i il).value-named) (diverted w.diverted.ref_count w.scratch) (dest t f ms i) from (value t f ms i) w.allocator g.good)
        (λ k q. record { good = q; counted = g.counted; idle = g.idle; still = g.still })

    module _ (i : ℕ) (il : i < n) (w : ParallelMoves) (g : Walk loaded calm w) where
      abbrev v : ℕ
      v = value t f ms i

      vl : v < num_values f
      vl = (ok i il).value-named

      abbrev d' : Diverted
      d' = carry v w.state (writers t f ms i) w.diverted

      pub grown : Grown t f ms v w.state w.diverted d' × (any_in (λ m. is_pending (w.state m)) (writers t f ms i) ≡ true → 0 < d'.ref_count v)
      grown = carry-grown t f ms v vl w.state (writers t f ms i) (writers-low t f ms i) w.diverted g.counted

      still-idle : (k : ℕ) → (loaded k → ⊥) → is_pending (w.state k) ≡ false → d'.values k ≡ []
      still-idle k a b = grown.0.only k b ∙ g.idle k a b

      -- a live diversion keeps its scratch
      pub joined-held : 0 < w.diverted.ref_count v → (s y : ℕ) → diverted d'.ref_count w.scratch s y ≡ diverted w.diverted.ref_count w.scratch s y
      joined-held l s y =
          omega (
            arith,
            diverted-change v vl w.diverted.ref_count d'.ref_count w.scratch w.scratch grown.0.others (λ x d. refl) s y,
            held-live (w.diverted.ref_count v) (w.scratch v) (size v) s y l,
            held-live (d'.ref_count v) (w.scratch v) (size v) s y (omega (arith, grown.0.more)),
          )

      -- a new one holds the place found
      pub begun-held :
          (p : Place) → any_in (λ m. is_pending (w.state m)) (writers t f ms i) ≡ true → w.diverted.ref_count v ≡ 0
          → (s y : ℕ) → diverted d'.ref_count (updated v p w.scratch) s y ≡ holds p (size v) s y + diverted w.diverted.ref_count w.scratch s y
      begun-held p e z s y =
          omega (
            arith,
            diverted-change v vl w.diverted.ref_count d'.ref_count w.scratch (updated v p w.scratch) grown.0.others (λ k d. updated-other v p w.scratch k d) s y,
            held-ended (w.diverted.ref_count v) (w.scratch v) (size v) s y z,
            held-live (d'.ref_count v) (updated v p w.scratch v) (size v) s y (grown.1 e),
            ap (λ q. holds q (size v) s y) (updated-same v p w.scratch),
          )

      joined : 0 < w.diverted.ref_count v → Walk loaded calm (carried t f ms i w)
      joined l =
          record {
            good = kept-cong t f c₀ _ _ w.allocator (joined-held l) g.good;
            counted = grown.0.counted;
            idle = still-idle;
            still = g.still;
          }

      divert-walk : any_in (λ m. is_pending (w.state m)) (writers t f ms i) ≡ true → w.diverted.ref_count v ≡ 0 → All (Walk loaded calm) (divert t f ms i (carried t f ms i w))
      unfolding divert Kept
      divert-walk e z =
          all_then (Search t f c₀ (bank t f ms v) (top_level_class t (bank t f ms v)) (diverted w.diverted.ref_count w.scratch)) (Walk loaded calm)
          (get_scratch_reg t f (bank t f ms v) (top_level_class t (bank t f ms v)) (cycle_move_sources t f ms) w.allocator) _
          (search-good t f c₀ (bank t f ms v) (top_level_class t (bank t f ms v)) (diverted w.diverted.ref_count w.scratch) (cycle_move_sources t f ms) w.allocator g.good)
          (λ x q. emit-walk i il x.place (noted t f ms i x (carried t f ms i w))
          (record {
            good = kept-cong t f c₀ (λ s y. holds x.place (size v) s y + diverted w.diverted.ref_count w.scratch s y) _ x.scratch (begun-held x.place e z) q.good;
            counted = grown.0.counted;
            idle = still-idle;
            still = g.still;
          }))

      pub lead-walk : All (Walk loaded calm) (lead t f ms i w)
      unfolding lead
      lead-walk =
          branch (All (Walk loaded calm)) (any_in (λ m. is_pending (w.state m)) (writers t f ms i)) _ _
          (λ e. branch (All (Walk loaded calm)) (eqb (w.diverted.ref_count v) 0) _ _ (λ z. divert-walk e (eqb-true (w.diverted.ref_count v) 0 z))
          (λ z. emit-walk i il (w.scratch v) (carried t f ms i w) (joined (positive (w.diverted.ref_count v) (eqb-false (w.diverted.ref_count v) 0 z)))))
          (λ _. emit-walk i il (source t f ms i) w g)

  module _ (i : ℕ) (il : i < n) (calm : ℕ → Type 0) where
    abbrev pub Closing : ParallelMoves → Type 0
    Closing = Walk (λ k. k ≡ i) calm

    module _ (v : ℕ) (l : List ℕ) (w : ParallelMoves) (e : w.diverted.values i ≡ v ∷ l) (g : Closing w) where
      abbrev pub Left : ParallelMoves → Type 0
      Left w' = Closing w' × (w'.diverted.values i ≡ l)

      abbrev d'' : Diverted
      d'' = lost t f ms i v l w.diverted

      pub lives : 0 < w.diverted.ref_count v
      lives = was-live t f ms i il v l w.diverted e g.counted

      pub there : v < num_values f
      there = g.counted.small v lives

      -- with one carrier fewer: the scratch is held no more where it was the last
      pub fewer : (s y : ℕ) → diverted d''.ref_count w.scratch s y + holds (w.scratch v) (size v) s y ≡ diverted w.diverted.ref_count w.scratch s y + held (d''.ref_count v) (w.scratch v) (size v) s y
      fewer s y =
          omega (
            arith,
            diverted-change v there w.diverted.ref_count d''.ref_count w.scratch w.scratch (λ x d. updated-other v (pred (w.diverted.ref_count v)) w.diverted.ref_count x d) (λ x d. refl) s y,
            held-live (w.diverted.ref_count v) (w.scratch v) (size v) s y lives,
          )

      left : (w' : ParallelMoves) → w'.diverted ≡ d'' → w'.state ≡ w.state → Kept t f c₀ (diverted w'.diverted.ref_count w'.scratch) w'.allocator → Left w'
      left w' q r h = (
        record {
          good = h;
          counted = subst (Counted t f ms) (sym q) (lost-counted t f ms i il v l w.diverted e g.counted);
          idle = λ k a b. ap (λ (d : Diverted). d.values k) q ∙ updated-other i l w.diverted.values k a ∙ g.idle k a (ap (λ (s : ℕ → State). is_pending (s k)) (sym r) ∙ b);
          still = λ k a. ap (λ (s : ℕ → State). is_pending (s k)) r ∙ g.still k a;
        },
        ap (λ (d : Diverted). d.values i) q ∙ updated-same i l w.diverted.values,
      )

      pub undivert-walk : All Left (undivert t f ms i v l w)
      unfolding undivert
      undivert-walk =
          branch (All Left) (eqb (d''.ref_count v) 0) _ _
          (λ z. all_then (Kept t f c₀ (diverted w.diverted.ref_count w.scratch)) Left (do_move t f (bank t f ms v) (w.scratch v) (w.alloc v) v w.allocator) _
          (move-good t f c₀ at af (bank t f ms v) (af.bank v there) (diverted w.diverted.ref_count w.scratch) (w.scratch v) (w.alloc v) v w.allocator g.good)
          (λ k q. left _ refl refl
          (place-good t f c₀ (size v) (w.scratch v) k (diverted d''.ref_count w.scratch)
          (kept-cong t f c₀ (diverted w.diverted.ref_count w.scratch) _ k (λ s y. omega (arith, fewer s y, held-ended (d''.ref_count v) (w.scratch v) (size v) s y (eqb-true (d''.ref_count v) 0 z))) q))))
          (λ z. left _ refl refl
          (kept-cong t f c₀ (diverted w.diverted.ref_count w.scratch) _ w.allocator
          (λ s y. omega (arith, fewer s y, held-live (d''.ref_count v) (w.scratch v) (size v) s y (positive (d''.ref_count v) (eqb-false (d''.ref_count v) 0 z)))) g.good))

    pub undivert_all-walk : (l : List ℕ) (w : ParallelMoves) → w.diverted.values i ≡ l → Closing w → All (Walk (λ k. ⊥) calm) (undivert_all t f ms i l w)
    unfolding undivert_all
    undivert_all-walk [] w e g =
        record {
          good = g.good;
          counted = g.counted;
          idle = λ k a b. ⊎_elim (λ q. ap w.diverted.values q ∙ e) (λ d. g.idle k d b) (same? k i);
          still = g.still;
        }
    undivert_all-walk (v ∷ l) w e g =
        all_then (Left v l w e g) (Walk (λ k. ⊥) calm) (undivert t f ms i v l w) _ (undivert-walk v l w e g) (λ w' q. undivert_all-walk l w' q.1 q.0)

    abbrev pub Others : ℕ → Type 0
    Others k = calm k × (k ≡ i → ⊥)

    pub done-walk : (w : ParallelMoves) → Walk (λ k. ⊥) Others w → Closing (with_state i Done w)
    done-walk w g =
        record {
          good = g.good;
          counted = g.counted;
          idle = λ k a b. g.idle k (λ x. x) (ap is_pending (sym (updated-other i Done w.state k a)) ∙ b);
          still = λ k a. updated-at (λ (s : State). is_pending s ≡ false) i Done w.state k (λ _. refl) (λ d. g.still k (a, d));
        }

    close-walk : (w : ParallelMoves) → Walk (λ k. ⊥) Others w → All (Walk (λ k. ⊥) calm) (close t f ms i w)
    unfolding close
    close-walk w g =
        all_then Closing (Walk (λ k. ⊥) calm) (lead t f ms i (with_state i Done w)) _ (lead-walk (λ k. k ≡ i) calm i il (with_state i Done w) (done-walk w g))
        (λ w' q. undivert_all-walk (w'.diverted.values i) w' refl q)

    pub open-walk : (w : ParallelMoves) → Walk (λ k. ⊥) calm w → Walk (λ k. ⊥) Others (with_state i Pending w)
    open-walk w g =
        record {
          good = g.good;
          counted = g.counted;
          idle = λ k a. updated-at (λ (s : State). is_pending s ≡ false → w.diverted.values k ≡ []) i Pending w.state k (λ _ b. absurd (false≢true (sym b))) (λ _ b. g.idle k a b);
          still = λ k a. ap is_pending (updated-other i Pending w.state k a.1) ∙ g.still k a.0;
        }

  visit-walk : (fuel : ℕ) (calm : ℕ → Type 0) (i : ℕ) (w : ParallelMoves) → i < n → Walk (λ k. ⊥) calm w → All (Walk (λ k. ⊥) calm) (visit t f ms fuel i w)
  unfolding visit
  visit-walk zero calm i w il g = branch (All (Walk (λ k. ⊥) calm)) (is_new (w.state i)) _ _ (λ _. tt) (λ _. g)
  visit-walk (suc fuel) calm i w il g =
      branch (All (Walk (λ k. ⊥) calm)) (is_new (w.state i)) _ _
      (λ e. all_then (Walk (λ k. ⊥) (Others i il calm)) (Walk (λ k. ⊥) calm) (each (visit t f ms fuel) (reverse (writers t f ms i)) (with_state i Pending w)) _
      (all-each (Walk (λ k. ⊥) (Others i il calm)) (λ m. m < n) (visit t f ms fuel) (λ m w' ml q. visit-walk fuel (Others i il calm) m w' ml q) (reverse (writers t f ms i))
      (every-reverse (λ m. m < n) (writers t f ms i) (writers-low t f ms i)) (with_state i Pending w) (open-walk i il calm w g))
      (λ w' q. close-walk i il calm w' q))
      (λ _. g)

  -- no move is open
  abbrev pub Resting : ParallelMoves → Type 0
  Resting = Walk (λ k. ⊥) (λ k. Unit {0})

  first_walk : (i : ℕ) (w : ParallelMoves) → i < n → Resting w → All Resting (visit_unless_memory t f ms i w)
  unfolding visit_unless_memory
  first_walk i w il g = branch (All Resting) (or (is_memory t (source t f ms i)) (is_memory t (dest t f ms i))) _ _ (λ _. g) (λ _. visit-walk n (λ k. Unit {0}) i w il g)

  pub start-walk : (k : ScratchAllocator) → Kept t f c₀ (λ s y. 0) k → Resting (start t f ms k)
  unfolding start occurs diverted held
  start-walk k g =
      record {
        good = kept-cong t f c₀ (λ s y. 0) _ k (λ s y. sum-zero (λ v. 0) (num_values f) (λ v h. refl)) g;
        counted = record { counts = λ v. sym (sum-zero (λ m. 0) n (λ m h. refl)); small = λ v h. absurd (omega arith) };
        idle = λ k a b. refl;
        still = λ k a. refl;
      }

  -- nothing is diverted any more
  pub rest-held : (w : ParallelMoves) → Resting w → (s y : ℕ) → 0 ≡ diverted w.diverted.ref_count w.scratch s y
  unfolding occurs diverted
  rest-held w g s y = sym (sum-zero (λ v. held (w.diverted.ref_count v) (w.scratch v) (size v) s y) (num_values f) (λ v h. held-ended (w.diverted.ref_count v) (w.scratch v) (size v) s y (ended v)))
    where
      ended : (v : ℕ) → w.diverted.ref_count v ≡ 0
      ended v = g.counted.counts v ∙ sum-zero (λ m. occurs v (w.diverted.values m)) n (λ m h. ap (occurs v) (g.idle m (λ x. x) (g.still m tt)))

  end-walk : (w : ParallelMoves) → Resting w → Kept t f c₀ (λ s y. 0) w.allocator
  end-walk w g = kept-cong t f c₀ _ (λ s y. 0) w.allocator (rest-held w g) g.good

  pub moves-good : (k : ScratchAllocator) → Kept t f c₀ (λ s y. 0) k → All (λ k'. Good t f c₀ (stacked k'.cache) k'.cache.made) (moves t f ms k)
  unfolding moves Kept waits
  moves-good k g =
      all_then Resting (λ k'. Good t f c₀ (stacked k'.cache) k'.cache.made) (and_then (each (visit_unless_memory t f ms) (indices 0 n) (start t f ms k)) (each (visit t f ms n) (indices 0 n))) _
      (all_then Resting Resting (each (visit_unless_memory t f ms) (indices 0 n) (start t f ms k)) _
      (all-each Resting (λ i. i < n) (visit_unless_memory t f ms) first_walk (indices 0 n) below (start t f ms k) (start-walk k g))
      (λ w p. all-each Resting (λ i. i < n) (visit t f ms n) (λ i w. visit-walk n (λ k. Unit {0}) i w) (indices 0 n) below w p))
      (λ w p. saved w.allocator (end-walk w p))
    where
      below : Every (λ i. i < n) (indices 0 n)
      below = every-index n 0 n (omega arith)

      saved : (k : ScratchAllocator) → Kept t f c₀ (λ s y. 0) k → Good t f c₀ (stacked (unevict_all t f k).cache) (unevict_all t f k).cache.made
      saved k h = good-cong t f c₀ _ _ (unevict_all t f k).cache.made (λ s z. omega (arith, ap (λ l. waits l s z) (unevict-evicted t f k.evicted (with_evicted [] k)))) (all-good t f c₀ k (λ s y. 0) h)

-- With slots enough every run ends, so that a run is out of slots for no reason but L.
use Prim.Native.Nat.{ℕ, zero, suc, ◌+◌, ◌<◌, ◌≤◌}
use mathlib.Core.Path.{◌≡◌, refl, subst}
use mathlib.Core.Bool.{Bool, true, false}
use mathlib.Core.List.{List, [], ◌∷◌, reverse}
use mathlib.Core.Option.{Option, none, some}
use native.Mathlib.Omega.{arith}
use lib.Dec.{eqb}
use lib.ListN.{length}
use borrow.Author.Tests.{lt-ltb}
use Rattle.entity.specs.Logic.{pick, and, or, any_in, has, indices}
use Rattle.entity.specs.Place.{Place}
use Rattle.reginfo.specs.RegInfo.{RegInfo, includes_spillslots, class_members, last_in_order, allocation_order, stack_to_stack_class, top_level_class, is_memory}
use Rattle.function.specs.Function.{Function, value_bank, remat_class}
use Rattle.rules.specs.Edit.{and_then, each, find}
use Rattle.rules.specs.Scratch.{Cache, ScratchAllocator, Evicted, acquire_from, unevict, unevict_but, unevict_for_reg, make_room, usable, meeting, searched_to, slot_scratch, evict_last, reuse, or_scratch, get_scratch_reg, nothing_barred, move_edits, do_move}
use Rattle.rules.specs.Order.{KeptMove, Remat, ParallelMoves, remats, remat_with_scratch, source, dest, value, writer_from, writers_of, writers, cycle_move_sources, emit, noted, divert, carried, lead, lost, undivert, undivert_all, close, visit, visit_unless_memory, start, moves, with_state, Pending, Done, is_new, is_pending}
use Rattle.rules.specs.Counts.{news}
use Rattle.rules.specs.Patch.{Patch, Sorted, run}
use Rattle.rules.specs.Refusals.{with_limit, OnlyBySlots}
use Rattle.rules.proofs.Steps.{All, Every, every-reverse, every-index}
use Rattle.rules.proofs.News.{news-all, news-open}
use Rattle.rules.proofs.Writers.{writers-low}
use Rattle.rules.proofs.Fuel.{visit-fewer}
use Rattle.rules.proofs.Limit.{by-limit}

-- a step under each limit comes to the same end from some limit on
record Ends {A : Type 0} (o : ℕ → Option A) : Type 0 where
  from : ℕ
  end : A
  is : (l : ℕ) → from ≤ l → o l ≡ some end

stay : {A : Type 0} (x : A) → Ends (λ l. some x)
stay x = record { from = 0; end = x; is = λ l h. refl }

choose : {A : Type 0} (b : Bool) (o u : ℕ → Option A) → (b ≡ true → Ends o) → (b ≡ false → Ends u) → Ends (λ l. pick b (o l) (u l))
choose true o u h g = h refl
choose false o u h g = g refl

-- two steps end from the greater limit on; P is what the first leaves
bind-with :
    {A B : Type 0} (P : A → Type 0) (o : ℕ → Option A) (next : ℕ → A → Option B) → Ends o → ((l : ℕ) → All P (o l)) → ((x : A) → P x → Ends (λ l. next l x))
    → Ends (λ l. and_then (o l) (next l))
unfolding and_then
bind-with P o next h p g =
    let r = g h.end (subst (All P) (h.is h.from (omega arith)) (p h.from)) in
    record { from = h.from + r.from; end = r.end; is = λ l q. rw (h.is l (omega arith)) (r.is l (omega arith)) }

any-result : {A : Type 0} (o : Option A) → All (λ x. Unit {0}) o
any-result none = tt
any-result (some x) = tt

bind : {A B : Type 0} (o : ℕ → Option A) (next : ℕ → A → Option B) → Ends o → ((x : A) → Ends (λ l. next l x)) → Ends (λ l. and_then (o l) (next l))
bind o next h g = bind-with (λ x. Unit {0}) o next h (λ l. any-result (o l)) (λ x _. g x)

each-ends :
    {A B : Type 0} (P : A → Type 0) (Q : B → Type 0) (step : ℕ → B → A → Option A) → ((x : B) (a : A) → Q x → P a → Ends (λ l. step l x a))
    → ((x : B) (a : A) → Q x → P a → (l : ℕ) → All P (step l x a)) → (xs : List B) → Every Q xs → (a : A) → P a → Ends (λ l. each (step l) xs a)
unfolding each
each-ends P Q step h k [] q a p = stay a
each-ends P Q step h k (x ∷ xs) q a p = bind-with P (λ l. step l x a) (λ l. each (step l) xs) (h x a q.0 p) (k x a q.0 p) (each-ends P Q step h k xs q.1)

module _ (t : RegInfo) (f : Function) where
  abbrev F : ℕ → Function
  F l = with_limit t f l

  -- a slot is there once L is more than were made
  acquire-ends : (z : ℕ) (c : Cache) (xs : List ℕ) → Ends (λ l. acquire_from t (F l) xs z c)
  unfolding acquire_from
  acquire-ends z c (s ∷ xs) = stay _
  acquire-ends z c [] = record { from = c.made + 1; end = record { slot = f.slots + c.made; cache = record { stacks = c.stacks; made = c.made + 1 } }; is = λ l h. rw (lt-ltb c.made l (omega arith)) }

  slot-ends : (n b : ℕ) (k : ScratchAllocator) → Ends (λ l. slot_scratch t (F l) n b k)
  unfolding slot_scratch
  slot-ends n b k = bind _ _ (acquire-ends _ k.cache _) (λ a. stay _)

  evict-ends : (n b c : ℕ) (k : ScratchAllocator) → Ends (λ l. evict_last t (F l) n b c k)
  unfolding evict_last
  evict-ends n b c k = bind _ _ (acquire-ends _ k.cache _) (λ a. stay _)

  reuse-ends : (es : List Evicted) (n b c : ℕ) (k : ScratchAllocator) → Ends (λ l. reuse t (F l) es n b c k)
  unfolding reuse make_room unevict_but unevict_for_reg unevict
  reuse-ends [] n b c k = evict-ends n b c (make_room t f (last_in_order t c) k)
  reuse-ends (e ∷ es) n b c k = choose (has e.reg (class_members t c)) _ _ (λ _. stay _) (λ _. reuse-ends es n b c k)

  or-ends : (o : Option ℕ) (n b c : ℕ) (k : ScratchAllocator) → Ends (λ l. or_scratch t (F l) o n b c k)
  unfolding or_scratch
  or-ends (some r) n b c k = stay _
  or-ends none n b c k = choose (includes_spillslots t c) _ _ (λ _. slot-ends n b k) (λ _. reuse-ends k.evicted n b c k)

  search-ends : (b c : ℕ) (barred : ℕ → Bool) (k : ScratchAllocator) → Ends (λ l. get_scratch_reg t (F l) b c barred k)
  unfolding get_scratch_reg
  search-ends b c barred k = or-ends (find (usable t f barred k) (allocation_order t c)) (searched_to t f c barred k) b c (meeting (searched_to t f c barred k) k)

  edits-ends : (b : ℕ) (to from : Place) (v : ℕ) (k : ScratchAllocator) → Ends (λ l. move_edits t (F l) b to from v k)
  unfolding move_edits
  edits-ends b to from v k =
      choose (and (is_memory t to) (is_memory t from)) _ _ (λ _. bind _ _ (search-ends b (stack_to_stack_class t b) (nothing_barred t f) k) (λ x. stay _)) (λ _. stay _)

  move-ends : (b : ℕ) (to from : Place) (v : ℕ) (k : ScratchAllocator) → Ends (λ l. do_move t (F l) b to from v k)
  unfolding do_move unevict_for_reg unevict
  move-ends b to from v k = bind _ _ (edits-ends b to from v (unevict_for_reg t f to (unevict_for_reg t f from k))) (λ k'. stay _)

  remat-ends : (r : Remat) (k : ScratchAllocator) → Ends (λ l. remat_with_scratch t (F l) r k)
  unfolding remat_with_scratch unevict_for_reg unevict remat_class
  remat-ends r k =
      bind _ _ (search-ends _ (remat_class f r.value) (nothing_barred t f) (unevict_for_reg t f r.dest k))
      (λ x. bind _ _ (edits-ends _ r.dest x.place r.value x.scratch) (λ k'. stay _))

  module _ (ms : List KeptMove) where
    abbrev n : ℕ
    n = length ms

    emit-ends : (i : ℕ) (from : Place) (w : ParallelMoves) → Ends (λ l. emit t (F l) ms i from w)
    unfolding value_bank
    emit-ends i from w = bind _ _ (move-ends (value_bank f (value t f ms i)) (dest t f ms i) from (value t f ms i) w.allocator) (λ k. stay _)

    divert-ends : (i : ℕ) (w : ParallelMoves) → Ends (λ l. divert t (F l) ms i w)
    unfolding divert value_bank cycle_move_sources
    divert-ends i w =
        bind _ _ (search-ends (value_bank f (value t f ms i)) (top_level_class t (value_bank f (value t f ms i))) (cycle_move_sources t f ms) w.allocator)
        (λ x. emit-ends i x.place (noted t f ms i x w))

    lead-ends : (i : ℕ) (w : ParallelMoves) → Ends (λ l. lead t (F l) ms i w)
    unfolding lead writers writers_of writer_from
    lead-ends i w =
        choose (any_in (λ m. is_pending (w.state m)) (writers t f ms i)) _ _
        (λ _. choose (eqb (w.diverted.ref_count (value t f ms i)) 0) _ _ (λ _. divert-ends i (carried t f ms i w)) (λ _. emit-ends i (w.scratch (value t f ms i)) (carried t f ms i w)))
        (λ _. emit-ends i (source t f ms i) w)

    undivert-ends : (i v : ℕ) (rest : List ℕ) (w : ParallelMoves) → Ends (λ l. undivert t (F l) ms i v rest w)
    unfolding undivert value_bank
    undivert-ends i v rest w =
        choose (eqb ((lost t f ms i v rest w.diverted).ref_count v) 0) _ _ (λ _. bind _ _ (move-ends (value_bank f v) (w.scratch v) (w.alloc v) v w.allocator) (λ k. stay _)) (λ _. stay _)

    undivert_all-ends : (i : ℕ) (vs : List ℕ) (w : ParallelMoves) → Ends (λ l. undivert_all t (F l) ms i vs w)
    unfolding undivert_all
    undivert_all-ends i [] w = stay w
    undivert_all-ends i (v ∷ vs) w = bind _ _ (undivert-ends i v vs w) (undivert_all-ends i vs)

    close-ends : (i : ℕ) (w : ParallelMoves) → Ends (λ l. close t (F l) ms i w)
    unfolding close
    close-ends i w = bind _ _ (lead-ends i (with_state i Done w)) (λ w'. undivert_all-ends i (w'.diverted.values i) w')

    -- a visit ends where its depth is not below the number of moves not visited yet
    visit-ends : (d i : ℕ) (w : ParallelMoves) → i < n → news n w.state ≤ d → Ends (λ l. visit t (F l) ms d i w)
    unfolding visit writers writers_of writer_from
    visit-ends zero i w il h = choose (is_new (w.state i)) _ _ (λ e. absurd (omega (arith, news-open n i w.state il e))) (λ _. stay w)
    visit-ends (suc d) i w il h =
        choose (is_new (w.state i)) _ _
        (λ e. bind _ _
        (each-ends (λ w'. news n w'.state ≤ d) (λ m. m < n) (λ l. visit t (F l) ms d) (λ m w' ml q. visit-ends d m w' ml q) (λ m w' ml q l. visit-fewer t (F l) ms d m w' d ml q)
        (reverse (writers t f ms i)) (every-reverse (λ m. m < n) (writers t f ms i) (writers-low t f ms i)) (with_state i Pending w) (omega (arith, news-open n i w.state il e)))
        (close-ends i))
        (λ _. stay w)

    -- a pass over the kept moves
    pass-ends : (step : ℕ → ℕ → ParallelMoves → Option ParallelMoves) → ((i : ℕ) (w : ParallelMoves) → i < n → Ends (λ l. step l i w)) → (w : ParallelMoves) → Ends (λ l. each (step l) (indices 0 n) w)
    pass-ends step h w = each-ends (λ w'. Unit {0}) (λ i. i < n) step (λ i w' il _. h i w' il) (λ i w' il _ l. any-result (step l i w')) (indices 0 n) (every-index n 0 n (omega arith)) w tt

    first_ends : (i : ℕ) (w : ParallelMoves) → i < n → Ends (λ l. visit_unless_memory t (F l) ms i w)
    unfolding visit_unless_memory
    first_ends i w il = choose (or (is_memory t (source t f ms i)) (is_memory t (dest t f ms i))) _ _ (λ _. stay w) (λ _. visit-ends _ i w il (omega (arith, news-all n w.state)))

    moves-ends : (k : ScratchAllocator) → Ends (λ l. moves t (F l) ms k)
    unfolding moves start unevict
    moves-ends k =
        bind _ _
        (bind _ _ (pass-ends (λ l. visit_unless_memory t (F l) ms) first_ends (start t f ms k)) (pass-ends (λ l. visit t (F l) ms _) (λ i w il. visit-ends _ i w il (omega (arith, news-all n w.state)))))
        (λ w. stay _)

  run_ends : (p : Patch) (a : Sorted) (c : Cache) → Ends (λ l. run t (F l) p a c)
  unfolding run remats
  run_ends p a c =
      bind _ _
      (each-ends (λ k. Unit {0}) (λ r. Unit {0}) (λ l. remat_with_scratch t (F l)) (λ r k _ _. remat-ends r k) (λ r k _ _ l. any-result (remat_with_scratch t (F l) r k)) a.remats_with_scratch
      (all_there a.remats_with_scratch) (remats t f a.remats (record { edits = []; available = λ u. has u p.free; evicted = []; cache = c; met = 0 })) tt)
      (moves-ends a.moves)
    where
      all_there : (l : List Remat) → Every (λ r. Unit {0}) l
      all_there [] = tt
      all_there (r ∷ l) = (tt, all_there l)

  pub only-by-slots : OnlyBySlots t f
  only-by-slots p a c = let e = run_ends p a c in (e.end, (e.from, e.is), by-limit t f e.from p a c e.end (e.is e.from (omega arith)))

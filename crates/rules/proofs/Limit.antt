-- 17 is the limit's doing alone: the run under another limit is the same until more than L slots are made.
use Prim.Native.Nat.{ℕ, zero, suc, ◌+◌, ◌<◌, ◌≤◌}
use mathlib.Core.Path.{◌≡◌, refl, ap, ◌∙◌}
use mathlib.Core.Bool.{Bool, true, false}
use mathlib.Core.List.{List, [], ◌∷◌, reverse}
use mathlib.Core.Option.{Option, none, some}
use mathlib.Core.Logic.{◌⊎◌, inl, inr, ⊎_elim}
use native.Mathlib.Omega.{arith}
use lib.Dec.{eqb, ltb}
use lib.ListN.{length}
use borrow.Author.Tests.{ltb-true, ltb-false}
use Rattle.entity.specs.Logic.{pick, and, or, any_in, has, indices}
use Rattle.entity.specs.Place.{Place, reg, slot}
use Rattle.reginfo.specs.RegInfo.{RegInfo, includes_spillslots, class_members, last_in_order, allocation_order, stack_to_stack_class, top_level_class, is_memory}
use Rattle.function.specs.Function.{Function, value_bank, remat_class}
use Rattle.rules.specs.Edit.{and_then, each, find}
use Rattle.rules.specs.Scratch.{Cache, ScratchAllocator, Evicted, Found, Acquired, acquire_from, unevict, unevict_but, unevict_for_reg, make_room, usable, meeting, searched_to, slot_scratch, evict_last, reuse, or_scratch, get_scratch_reg, nothing_barred, move_edits, do_move, release_place, with_evicted}
use Rattle.rules.specs.Order.{KeptMove, Remat, ParallelMoves, do_remat, remats, remat_with_scratch, source, dest, value, writer_from, writers_of, writers, cycle_move_sources, emit, noted, divert, carried, lead, lost, undivert, undivert_all, close, visit, visit_unless_memory, start, moves, with_state, Pending, Done, is_new, is_pending}
use Rattle.rules.specs.Patch.{Patch, Sorted, run}
use Rattle.rules.specs.Refusals.{with_limit, ByLimit}

inside : {A : Type 0} {x y : A} → some x ≡ some y → x ≡ y
inside e = cc

module _ (t : RegInfo) (f : Function) (l : ℕ) where
  abbrev f' : Function
  f' = with_limit t f l

  -- o' is o under the other limit; `made` counts the slots, n of them before
  abbrev Same : {A : Type 0} → (A → ℕ) → ℕ → Option A → Option A → Type 0
  Same {A} made n o o' = (x : A) → o' ≡ some x → (n ≤ made x) × ((made x ≤ f.limit) ⊎ (made x ≡ n) → o ≡ some x) × (n < made x → f.limit < made x → o ≡ none)

  stay : {A : Type 0} (made : A → ℕ) (n : ℕ) (x : A) → made x ≡ n → Same made n (some x) (some x)
  stay made n x h y e =
      let q : x ≡ y = inside e in
      let r : made x ≡ made y = ap made q in
      (omega arith, λ a. ap some q, λ a b. absurd (omega arith))

  never : {A : Type 0} (made : A → ℕ) (n : ℕ) → Same made n none none
  never made n x e = let z : ◌≡◌ {A = ℕ} 0 1 = cc in absurd (omega arith)

  choose : {A : Type 0} (made : A → ℕ) (n : ℕ) (b : Bool) (o o' u u' : Option A) → Same made n o o' → Same made n u u' → Same made n (pick b o u) (pick b o' u')
  choose made n true o o' u u' h g = h
  choose made n false o o' u u' h g = g

  from : {A : Type 0} (made : A → ℕ) (m n : ℕ) (o o' : Option A) → m ≡ n → Same made m o o' → Same made n o o'
  from made m n o o' q h = rw q at h

  bind : {A B : Type 0} (ma : A → ℕ) (mb : B → ℕ) (n : ℕ) (o o' : Option A) (next next' : A → Option B)
      → Same ma n o o' → ((x : A) → Same mb (ma x) (next x) (next' x)) → Same mb n (and_then o next) (and_then o' next')
  unfolding and_then
  bind ma mb n o none next next' h g y e = let z : ◌≡◌ {A = ℕ} 0 1 = cc in absurd (omega arith)
  bind ma mb n o (some x) next next' h g y e =
      (omega (arith, s.0, r.0), ⊎_elim (λ b. on (inl (omega (arith, r.0))) (inl b)) (λ b. on (inr (omega (arith, s.0, r.0))) (inr (omega (arith, s.0, r.0)))), λ a b. out a b (ltb n (ma x)) refl (ltb f.limit (ma x)) refl)
    where
      s : (n ≤ ma x) × ((ma x ≤ f.limit) ⊎ (ma x ≡ n) → o ≡ some x) × (n < ma x → f.limit < ma x → o ≡ none)
      s = h x refl

      r : (ma x ≤ mb y) × ((mb y ≤ f.limit) ⊎ (mb y ≡ ma x) → next x ≡ some y) × (ma x < mb y → f.limit < mb y → next x ≡ none)
      r = g x y e

      on : (ma x ≤ f.limit) ⊎ (ma x ≡ n) → (mb y ≤ f.limit) ⊎ (mb y ≡ ma x) → and_then o next ≡ some y
      on a b = rw (s.1 a) (r.1 b)

      out : n < mb y → f.limit < mb y → (b : Bool) → ltb n (ma x) ≡ b → (d : Bool) → ltb f.limit (ma x) ≡ d → and_then o next ≡ none
      out a b true p true q = rw (s.2 (ltb-true n (ma x) p) (ltb-true f.limit (ma x) q))
      out a b true p false q =
          let w : ma x ≤ f.limit = ltb-false f.limit (ma x) q in
          rw (s.1 (inl w)) (r.2 (omega arith) b)
      out a b false p d q =
          let w : ma x ≤ n = ltb-false n (ma x) p in
          rw (s.1 (inr (omega (arith, s.0)))) (r.2 (omega arith) b)

  each_same : {A B : Type 0} (made : A → ℕ) (step step' : B → A → Option A) → ((x : B) (a : A) → Same made (made a) (step x a) (step' x a))
      → (xs : List B) (a : A) → Same made (made a) (each step xs a) (each step' xs a)
  unfolding each
  each_same made step step' h [] a = stay made (made a) a refl
  each_same made step step' h (x ∷ xs) a = bind made made (made a) _ _ _ _ (h x a) (each_same made step step' h xs)

  -- the scratch keeper
  abbrev of_cache : Acquired → ℕ
  of_cache x = x.cache.made

  abbrev of_keeper : ScratchAllocator → ℕ
  of_keeper k = k.cache.made

  abbrev of_found : Found → ℕ
  of_found x = x.scratch.cache.made

  acquire-same : (z : ℕ) (c : Cache) (xs : List ℕ) → Same of_cache c.made (acquire_from t f xs z c) (acquire_from t f' xs z c)
  unfolding acquire_from
  acquire-same z c (s ∷ xs) = stay of_cache c.made _ refl
  acquire-same z c [] = go (ltb c.made f.limit) refl (ltb c.made l) refl
    where
      go : (b : Bool) → ltb c.made f.limit ≡ b → (d : Bool) → ltb c.made l ≡ d
          → Same of_cache c.made (pick b (some (record { slot = f.slots + c.made; cache = record { stacks = c.stacks; made = c.made + 1 } })) none) (pick d (some (record { slot = f.slots + c.made; cache = record { stacks = c.stacks; made = c.made + 1 } })) none)
      go b p false q x e = let z : ◌≡◌ {A = ℕ} 0 1 = cc in absurd (omega arith)
      go true p true q x e =
          let w : c.made < f.limit = ltb-true _ _ p in
          let r : c.made + 1 ≡ x.cache.made = ap of_cache (inside e) in
          (omega arith, λ a. e, λ a b. absurd (omega arith))
      go false p true q x e =
          let w : f.limit ≤ c.made = ltb-false _ _ p in
          let r : c.made + 1 ≡ x.cache.made = ap of_cache (inside e) in
          (omega arith, ⊎_elim (λ a. absurd (omega arith)) (λ a. absurd (omega arith)), λ a b. refl)

  unevict-made : (es : List Evicted) (k : ScratchAllocator) → of_keeper (unevict t f es k) ≡ of_keeper k
  unfolding unevict
  unevict-made [] k = refl
  unevict-made (e ∷ es) k = unevict-made es k

  for-made : (p : Place) (k : ScratchAllocator) → of_keeper (unevict_for_reg t f p k) ≡ of_keeper k
  unfolding unevict_for_reg
  for-made p k = unevict-made _ _

  room-made : (r : ℕ) (k : ScratchAllocator) → of_keeper (make_room t f r k) ≡ of_keeper k
  unfolding make_room unevict_but
  room-made r k = unevict-made _ _ ∙ for-made (reg r) k

  release-made : (z : ℕ) (p : Place) (k : ScratchAllocator) → of_keeper (release_place t f z p k) ≡ of_keeper k
  release-made z (reg r) k = refl
  release-made z (slot s) k = refl

  slot_same : (n b : ℕ) (k : ScratchAllocator) → Same of_found (of_keeper k) (slot_scratch t f n b k) (slot_scratch t f' n b k)
  unfolding slot_scratch
  slot_same n b k = bind of_cache of_found (of_keeper k) _ _ _ _ (acquire-same _ k.cache _) (λ a. stay of_found (of_cache a) _ refl)

  evict-same : (n b c : ℕ) (k : ScratchAllocator) → Same of_found (of_keeper k) (evict_last t f n b c k) (evict_last t f' n b c k)
  unfolding evict_last
  evict-same n b c k = bind of_cache of_found (of_keeper k) _ _ _ _ (acquire-same _ k.cache _) (λ a. stay of_found (of_cache a) _ refl)

  reuse-same : (es : List Evicted) (n b c : ℕ) (k : ScratchAllocator) → Same of_found (of_keeper k) (reuse t f es n b c k) (reuse t f' es n b c k)
  unfolding reuse make_room unevict_but unevict_for_reg unevict
  reuse-same [] n b c k = from of_found (of_keeper (make_room t f (last_in_order t c) k)) (of_keeper k) _ _ (room-made (last_in_order t c) k) (evict-same n b c (make_room t f (last_in_order t c) k))
  reuse-same (e ∷ es) n b c k = choose of_found (of_keeper k) (has e.reg (class_members t c)) _ _ _ _ (stay of_found (of_keeper k) _ refl) (reuse-same es n b c k)

  or_same : (o : Option ℕ) (n b c : ℕ) (k : ScratchAllocator) → Same of_found (of_keeper k) (or_scratch t f o n b c k) (or_scratch t f' o n b c k)
  unfolding or_scratch
  or_same (some r) n b c k = stay of_found (of_keeper k) _ refl
  or_same none n b c k = choose of_found (of_keeper k) (includes_spillslots t c) _ _ _ _ (slot_same n b k) (reuse-same k.evicted n b c k)

  search-same : (b c : ℕ) (barred : ℕ → Bool) (k : ScratchAllocator) → Same of_found (of_keeper k) (get_scratch_reg t f b c barred k) (get_scratch_reg t f' b c barred k)
  unfolding get_scratch_reg
  search-same b c barred k = or_same (find (usable t f barred k) (allocation_order t c)) (searched_to t f c barred k) b c (meeting (searched_to t f c barred k) k)

  edits-same : (b : ℕ) (to from : Place) (v : ℕ) (k : ScratchAllocator) → Same of_keeper (of_keeper k) (move_edits t f b to from v k) (move_edits t f' b to from v k)
  unfolding move_edits
  edits-same b to from v k =
      choose of_keeper (of_keeper k) (and (is_memory t to) (is_memory t from)) _ _ _ _
      (bind of_found of_keeper (of_keeper k) _ _ _ _ (search-same b (stack_to_stack_class t b) (nothing_barred t f) k) (λ x. stay of_keeper (of_found x) _ refl))
      (stay of_keeper (of_keeper k) _ refl)

  move_same : (b : ℕ) (to src : Place) (v : ℕ) (k : ScratchAllocator) → Same of_keeper (of_keeper k) (do_move t f b to src v k) (do_move t f' b to src v k)
  unfolding do_move unevict_for_reg unevict
  move_same b to src v k =
      bind of_keeper of_keeper (of_keeper k) _ _ _ _
      (from of_keeper (of_keeper (unevict_for_reg t f to (unevict_for_reg t f src k))) (of_keeper k) _ _ (for-made to (unevict_for_reg t f src k) ∙ for-made src k) (edits-same b to src v (unevict_for_reg t f to (unevict_for_reg t f src k))))
      (λ k'. stay of_keeper (of_keeper k') _ refl)

  remat-same : (r : Remat) (k : ScratchAllocator) → Same of_keeper (of_keeper k) (remat_with_scratch t f r k) (remat_with_scratch t f' r k)
  unfolding remat_with_scratch unevict_for_reg unevict remat_class
  remat-same r k =
      bind of_found of_keeper (of_keeper k) _ _ _ _
      (from of_found (of_keeper (unevict_for_reg t f r.dest k)) (of_keeper k) _ _ (for-made r.dest k) (search-same _ (remat_class f r.value) (nothing_barred t f) (unevict_for_reg t f r.dest k)))
      (λ x. bind of_keeper of_keeper (of_found x) _ _ _ _ (edits-same _ r.dest x.place r.value x.scratch) (λ k'. stay of_keeper (of_keeper k') _ (release-made _ x.place _)))

  -- the kept moves
  abbrev of_moves : ParallelMoves → ℕ
  of_moves w = w.allocator.cache.made

  module _ (ms : List KeptMove) where
    emit-same : (i : ℕ) (src : Place) (w : ParallelMoves) → Same of_moves (of_moves w) (emit t f ms i src w) (emit t f' ms i src w)
    unfolding value_bank
    emit-same i src w = bind of_keeper of_moves (of_moves w) _ _ _ _ (move_same (value_bank f (value t f ms i)) (dest t f ms i) src (value t f ms i) w.allocator) (λ k. stay of_moves (of_keeper k) _ refl)

    divert-same : (i : ℕ) (w : ParallelMoves) → Same of_moves (of_moves w) (divert t f ms i w) (divert t f' ms i w)
    unfolding divert value_bank cycle_move_sources
    divert-same i w =
        bind of_found of_moves (of_moves w) _ _ _ _ (search-same (value_bank f (value t f ms i)) (top_level_class t (value_bank f (value t f ms i))) (cycle_move_sources t f ms) w.allocator)
        (λ x. emit-same i x.place (noted t f ms i x w))

    lead-same : (i : ℕ) (w : ParallelMoves) → Same of_moves (of_moves w) (lead t f ms i w) (lead t f' ms i w)
    unfolding lead writers writers_of writer_from
    lead-same i w =
        choose of_moves (of_moves w) (any_in (λ m. is_pending (w.state m)) (writers t f ms i)) _ _ _ _
        (choose of_moves (of_moves w) (eqb (w.diverted.ref_count (value t f ms i)) 0) _ _ _ _ (divert-same i (carried t f ms i w)) (emit-same i (w.scratch (value t f ms i)) (carried t f ms i w)))
        (emit-same i (source t f ms i) w)

    undivert-same : (i v : ℕ) (rest : List ℕ) (w : ParallelMoves) → Same of_moves (of_moves w) (undivert t f ms i v rest w) (undivert t f' ms i v rest w)
    unfolding undivert value_bank
    undivert-same i v rest w =
        choose of_moves (of_moves w) (eqb ((lost t f ms i v rest w.diverted).ref_count v) 0) _ _ _ _
        (bind of_keeper of_moves (of_moves w) _ _ _ _ (move_same (value_bank f v) (w.scratch v) (w.alloc v) v w.allocator) (λ k. stay of_moves (of_keeper k) _ (release-made _ (w.scratch v) k)))
        (stay of_moves (of_moves w) _ refl)

    undivert_all-same : (i : ℕ) (vs : List ℕ) (w : ParallelMoves) → Same of_moves (of_moves w) (undivert_all t f ms i vs w) (undivert_all t f' ms i vs w)
    unfolding undivert_all
    undivert_all-same i [] w = stay of_moves (of_moves w) w refl
    undivert_all-same i (v ∷ vs) w = bind of_moves of_moves (of_moves w) _ _ _ _ (undivert-same i v vs w) (undivert_all-same i vs)

    close-same : (i : ℕ) (w : ParallelMoves) → Same of_moves (of_moves w) (close t f ms i w) (close t f' ms i w)
    unfolding close
    close-same i w = bind of_moves of_moves (of_moves w) _ _ _ _ (lead-same i (with_state i Done w)) (λ w'. undivert_all-same i (w'.diverted.values i) w')

    visit-same : (n i : ℕ) (w : ParallelMoves) → Same of_moves (of_moves w) (visit t f ms n i w) (visit t f' ms n i w)
    unfolding visit writers writers_of writer_from
    visit-same zero i w = choose of_moves (of_moves w) (is_new (w.state i)) _ _ _ _ (never of_moves (of_moves w)) (stay of_moves (of_moves w) w refl)
    visit-same (suc n) i w =
        choose of_moves (of_moves w) (is_new (w.state i)) _ _ _ _
        (bind of_moves of_moves (of_moves w) _ _ _ _ (each_same of_moves (visit t f ms n) (visit t f' ms n) (visit-same n) (reverse (writers t f ms i)) (with_state i Pending w)) (close-same i))
        (stay of_moves (of_moves w) w refl)

    first-same : (i : ℕ) (w : ParallelMoves) → Same of_moves (of_moves w) (visit_unless_memory t f ms i w) (visit_unless_memory t f' ms i w)
    unfolding visit_unless_memory
    first-same i w = choose of_moves (of_moves w) (or (is_memory t (source t f ms i)) (is_memory t (dest t f ms i))) _ _ _ _ (stay of_moves (of_moves w) w refl) (visit-same (length ms) i w)

    moves-same : (k : ScratchAllocator) → Same of_keeper (of_keeper k) (moves t f ms k) (moves t f' ms k)
    unfolding moves start unevict
    moves-same k =
        bind of_moves of_keeper (of_keeper k) _ _ _ _
        (bind of_moves of_moves (of_keeper k) _ _ _ _ (each_same of_moves (visit_unless_memory t f ms) (visit_unless_memory t f' ms) first-same (indices 0 (length ms)) (start t f ms k))
        (each_same of_moves (visit t f ms (length ms)) (visit t f' ms (length ms)) (visit-same (length ms)) (indices 0 (length ms))))
        (λ w. stay of_keeper (of_moves w) _ (unevict-made w.allocator.evicted (with_evicted [] w.allocator)))

  remats-made : (rs : List Remat) (k : ScratchAllocator) → of_keeper (remats t f rs k) ≡ of_keeper k
  unfolding remats
  remats-made [] k = refl
  remats-made (r ∷ rs) k = remats-made rs (do_remat t f r k)

  run-same : (p : Patch) (a : Sorted) (c : Cache) → Same of_keeper c.made (run t f p a c) (run t f' p a c)
  unfolding run remats
  run-same p a c =
      let k : ScratchAllocator = record { edits = []; available = λ u. has u p.free; evicted = []; cache = c; met = 0 } in
      bind of_keeper of_keeper c.made _ _ _ _
      (from of_keeper (of_keeper (remats t f a.remats k)) c.made _ _ (remats-made a.remats k) (each_same of_keeper (remat_with_scratch t f) (remat_with_scratch t f') remat-same a.remats_with_scratch (remats t f a.remats k)))
      (moves-same a.moves)

  pub by-limit : (p : Patch) (a : Sorted) (c : Cache) (k : ScratchAllocator) → run t (with_limit t f l) p a c ≡ some k → ByLimit t f p a c k
  by-limit p a c k e = record { out = (λ q. over q (ltb c.made k.cache.made) refl (ltb f.limit k.cache.made) refl, λ h. s.2 h.0 h.1); same = s.1 }
    where
      s : (c.made ≤ k.cache.made) × ((k.cache.made ≤ f.limit) ⊎ (k.cache.made ≡ c.made) → run t f p a c ≡ some k) × (c.made < k.cache.made → f.limit < k.cache.made → run t f p a c ≡ none)
      s = run-same p a c k e

      not-both : {A : Type 0} → run t f p a c ≡ none → run t f p a c ≡ some k → A
      not-both q is = let z : ◌≡◌ {A = ℕ} 0 1 = cc in absurd (omega arith)

      over : run t f p a c ≡ none → (b : Bool) → ltb c.made k.cache.made ≡ b → (d : Bool) → ltb f.limit k.cache.made ≡ d → (c.made < k.cache.made) × (f.limit < k.cache.made)
      over q true h true g = (ltb-true _ _ h, ltb-true _ _ g)
      over q true h false g = not-both q (s.1 (inl (ltb-false _ _ g)))
      over q false h d g = let w : k.cache.made ≤ c.made = ltb-false _ _ h in not-both q (s.1 (inr (omega (arith, s.0))))

-- a run that ends makes no fewer slots and at most L
pub made-within : (t : RegInfo) (f : Function) (p : Patch) (a : Sorted) (c : Cache) (k : ScratchAllocator) → c.made ≤ f.limit → run t f p a c ≡ some k
    → (c.made ≤ k.cache.made) × (k.cache.made ≤ f.limit)
made-within t f p a c k few e = ((run-same t f f.limit p a c k e).0, go (ltb f.limit k.cache.made) refl)
  where
    go : (b : Bool) → ltb f.limit k.cache.made ≡ b → k.cache.made ≤ f.limit
    go true h =
        let w : f.limit < k.cache.made = ltb-true _ _ h in
        let is : run t f p a c ≡ none = (run-same t f f.limit p a c k e).2 (omega arith) w in
        let z : ◌≡◌ {A = ℕ} 0 1 = cc in absurd (omega arith)
    go false h = ltb-false _ _ h

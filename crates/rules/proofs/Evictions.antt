-- No more registers are held than the function keeps.
use Prim.Native.Nat.{ℕ, zero, suc, pred, ◌<◌, ◌≤◌}
use mathlib.Core.Path.{◌≡◌, refl, ap, subst}
use mathlib.Core.Bool.{Bool}
use mathlib.Core.List.{List, [], ◌∷◌, reverse}
use mathlib.Core.Option.{Option, none, some}
use native.Mathlib.Omega.{arith}
use lib.Dec.{eqb}
use lib.ListN.{length, take, length-take}
use Rattle.entity.specs.Logic.{and, no, any_in, has}
use Rattle.entity.specs.Place.{Place, reg, slot}
use Rattle.reginfo.specs.RegInfo.{RegInfo, bank_for_class, allocation_order, class_members, includes_spillslots, last_in_order, spillslot_size, stack_to_stack_class, is_memory}
use Rattle.function.specs.Function.{Function, remat_class}
use Rattle.function.proofs.Laws.{kept-some}
use Rattle.rules.specs.Edit.{Rematerialize, each, find, filter}
use Rattle.rules.specs.Scratch.{ScratchAllocator, Evicted, Found, push, with_evicted, release_place, unevict, unevict_but, overlaps_evicted, unevict_for_reg, make_room, usable, meeting, searched_to, slot_scratch, evict_last, reuse, or_scratch, get_scratch_reg, nothing_barred, move_edits, do_move}
use Rattle.rules.specs.Order.{KeptMove, Remat, ParallelMoves, remat_with_scratch, source, value, writers, cycle_move_sources, emit, noted, divert, carried, lead, lost, undivert, undivert_all, close, visit, moves, with_state, Pending, Done, is_new, is_pending}
use Rattle.rules.specs.Evictions.{Few, FewHeld}
use Rattle.rules.proofs.Steps.{All, all_then, all_after, branch, Every, all-each}
use Rattle.rules.proofs.Parts.{filter_parts, parts-length}

taken : {A : Type 0} (P : A → Type 0) (o : Option A) (x : A) → All P o → o ≡ some x → P x
taken P o x h e = subst (All P) e h

module _ (t : RegInfo) (f : Function) where
  -- to bring back changes the record no further
  pub unevict-evicted : (l : List Evicted) (k : ScratchAllocator) → (unevict t f l k).evicted ≡ k.evicted
  unfolding unevict
  unevict-evicted [] k = refl
  unevict-evicted (e ∷ l) k = unevict-evicted l k

  pub for-few : (p : Place) (k : ScratchAllocator) → Few t f k → Few t f (unevict_for_reg t f p k)
  unfolding unevict_for_reg
  for-few p k h =
      let es = filter (overlaps_evicted t f p) k.evicted in
      let rest = filter (λ e. no (overlaps_evicted t f p e)) k.evicted in
      omega (arith, ap length (unevict-evicted es (with_evicted rest k)), parts-length es rest k.evicted (filter_parts (overlaps_evicted t f p) k.evicted))

  but-evicted : (n : ℕ) (k : ScratchAllocator) → (unevict_but t f n k).evicted ≡ take n k.evicted
  unfolding unevict_but
  but-evicted n k = unevict-evicted _ _

  -- one more has room
  pub room-few : (r : ℕ) (k : ScratchAllocator) → length (make_room t f r k).evicted ≤ pred f.kept
  unfolding make_room
  room-few r k = let k' = unevict_for_reg t f (reg r) k in omega (arith, ap length (but-evicted (pred f.kept) k'), length-take (pred f.kept) k'.evicted)

  module _ (some-kept : 0 < f.kept) where
    abbrev pub FewFound : Found → Type 0
    FewFound x = Few t f x.scratch

    slot-few : (n b : ℕ) (k : ScratchAllocator) → Few t f k → All FewFound (slot_scratch t f n b k)
    unfolding slot_scratch
    slot-few n b k h = all_after FewFound _ _ (λ a. h)

    reuse-few : (es : List Evicted) (n b c : ℕ) (k : ScratchAllocator) → Few t f k → All FewFound (reuse t f es n b c k)
    unfolding reuse evict_last
    reuse-few [] n b c k h = all_after FewFound _ _ (λ a. omega (arith, room-few (last_in_order t c) k))
    reuse-few (e ∷ es) n b c k h = branch (All FewFound) (has e.reg (class_members t c)) _ _ (λ _. h) (λ _. reuse-few es n b c k h)

    or-few : (o : Option ℕ) (n b c : ℕ) (k : ScratchAllocator) → Few t f k → All FewFound (or_scratch t f o n b c k)
    unfolding or_scratch
    or-few (some r) n b c k h = h
    or-few none n b c k h = branch (All FewFound) (includes_spillslots t c) _ _ (λ _. slot-few n b k h) (λ _. reuse-few k.evicted n b c k h)

    pub search-few : (b c : ℕ) (barred : ℕ → Bool) (k : ScratchAllocator) → Few t f k → All FewFound (get_scratch_reg t f b c barred k)
    unfolding get_scratch_reg
    search-few b c barred k h = or-few (find (usable t f barred k) (allocation_order t c)) (searched_to t f c barred k) b c (meeting (searched_to t f c barred k) k) h

    edits-few : (b : ℕ) (to from : Place) (v : ℕ) (k : ScratchAllocator) → Few t f k → All (Few t f) (move_edits t f b to from v k)
    unfolding move_edits
    edits-few b to from v k h =
        branch (All (Few t f)) (and (is_memory t to) (is_memory t from)) _ _
        (λ _. all_then FewFound (Few t f) (get_scratch_reg t f b (stack_to_stack_class t b) (nothing_barred t f) k) _ (search-few b (stack_to_stack_class t b) (nothing_barred t f) k h) (λ x q. q)) (λ _. h)

    pub move-few : (b : ℕ) (to from : Place) (v : ℕ) (k : ScratchAllocator) → Few t f k → All (Few t f) (do_move t f b to from v k)
    unfolding do_move
    move-few b to from v k h =
        all_then (Few t f) (Few t f) (move_edits t f b to from v (unevict_for_reg t f to (unevict_for_reg t f from k))) _
        (edits-few b to from v (unevict_for_reg t f to (unevict_for_reg t f from k)) (for-few to (unevict_for_reg t f from k) (for-few from k h))) (λ k' q. q)

    released : (z : ℕ) (p : Place) (k : ScratchAllocator) → Few t f k → Few t f (release_place t f z p k)
    released z (reg r) k h = h
    released z (slot s) k h = h

    pub remat-few : (r : Remat) (k : ScratchAllocator) → Few t f k → All (Few t f) (remat_with_scratch t f r k)
    unfolding remat_with_scratch
    remat-few r k h =
        let b = bank_for_class t (remat_class f r.value) in
        all_then FewFound (Few t f) (get_scratch_reg t f b (remat_class f r.value) (nothing_barred t f) (unevict_for_reg t f r.dest k)) _
        (search-few b (remat_class f r.value) (nothing_barred t f) (unevict_for_reg t f r.dest k) (for-few r.dest k h))
        (λ x q. all_then (Few t f) (Few t f) (move_edits t f b r.dest x.place r.value x.scratch) _ (edits-few b r.dest x.place r.value x.scratch q)
        (λ k' q'. released (spillslot_size t b) x.place (push (Rematerialize x.place r.value) k') q'))

    module _ (ms : List KeptMove) where
      abbrev pub FewWalk : ParallelMoves → Type 0
      FewWalk w = Few t f w.allocator

      pub emit-few : (i : ℕ) (from : Place) (w : ParallelMoves) → FewWalk w → All FewWalk (emit t f ms i from w)
      emit-few i from w h = all_then (Few t f) FewWalk _ _ (move-few _ _ from _ w.allocator h) (λ k q. q)

      pub lead-few : (i : ℕ) (w : ParallelMoves) → FewWalk w → All FewWalk (lead t f ms i w)
      unfolding lead divert
      lead-few i w h =
          branch (All FewWalk) (any_in (λ m. is_pending (w.state m)) (writers t f ms i)) _ _
          (λ _. branch (All FewWalk) (eqb (w.diverted.ref_count (value t f ms i)) 0) _ _
          (λ _. all_then FewFound FewWalk _ _ (search-few _ _ (cycle_move_sources t f ms) w.allocator h) (λ x q. emit-few i x.place (noted t f ms i x (carried t f ms i w)) q))
          (λ _. emit-few i (w.scratch (value t f ms i)) (carried t f ms i w) h))
          (λ _. emit-few i (source t f ms i) w h)

      pub undivert-few : (i v : ℕ) (rest : List ℕ) (w : ParallelMoves) → FewWalk w → All FewWalk (undivert t f ms i v rest w)
      unfolding undivert
      undivert-few i v rest w h =
          branch (All FewWalk) (eqb ((lost t f ms i v rest w.diverted).ref_count v) 0) _ _
          (λ _. all_then (Few t f) FewWalk _ _ (move-few _ (w.scratch v) (w.alloc v) v w.allocator h) (λ k q. released _ (w.scratch v) k q)) (λ _. h)

      pub undivert_all-few : (i : ℕ) (l : List ℕ) (w : ParallelMoves) → FewWalk w → All FewWalk (undivert_all t f ms i l w)
      unfolding undivert_all
      undivert_all-few i [] w h = h
      undivert_all-few i (v ∷ l) w h = all_then FewWalk FewWalk (undivert t f ms i v l w) _ (undivert-few i v l w h) (undivert_all-few i l)

      pub close-few : (i : ℕ) (w : ParallelMoves) → FewWalk w → All FewWalk (close t f ms i w)
      unfolding close
      close-few i w h =
          all_then FewWalk FewWalk (lead t f ms i (with_state i Done w)) _ (lead-few i (with_state i Done w) h) (λ w' q. undivert_all-few i (w'.diverted.values i) w' q)

      pub visit-few : (d i : ℕ) (w : ParallelMoves) → FewWalk w → All FewWalk (visit t f ms d i w)
      unfolding visit
      visit-few zero i w h = branch (All FewWalk) (is_new (w.state i)) _ _ (λ _. tt) (λ _. h)
      visit-few (suc d) i w h =
          branch (All FewWalk) (is_new (w.state i)) _ _
          (λ _. all_then FewWalk FewWalk (each (visit t f ms d) (reverse (writers t f ms i)) (with_state i Pending w)) _
          (all-each FewWalk (λ m. Unit {0}) (visit t f ms d) (λ m w' _ q. visit-few d m w' q) (reverse (writers t f ms i)) (all_there (reverse (writers t f ms i))) (with_state i Pending w) h)
          (λ w' q. close-few i w' q))
          (λ _. h)
        where
          all_there : (l : List ℕ) → Every (λ m. Unit {0}) l
          all_there [] = tt
          all_there (m ∷ l) = (tt, all_there l)

  moves-none : (ms : List KeptMove) (k : ScratchAllocator) → All (λ k'. k'.evicted ≡ []) (moves t f ms k)
  unfolding moves
  moves-none ms k = all_after (λ k'. k'.evicted ≡ []) _ _ (λ w. unevict-evicted w.allocator.evicted (with_evicted [] w.allocator))

  pub few-held : FewHeld t f
  few-held a =
      let h = kept-some t f a in
      record {
        search = λ b c barred k x q. taken (FewFound h) (get_scratch_reg t f b c barred k) x (search-few h b c barred k q);
        move = λ b to from v k k' q. taken (Few t f) (do_move t f b to from v k) k' (move-few h b to from v k q);
        remat-step = λ r k k' q. taken (Few t f) (remat_with_scratch t f r k) k' (remat-few h r k q);
        visited = λ ms d i w w' q. taken (FewWalk h ms) (visit t f ms d i w) w' (visit-few h ms d i w q);
        ends = λ ms k k'. taken (λ k'. k'.evicted ≡ []) (moves t f ms k) k' (moves-none ms k);
      }

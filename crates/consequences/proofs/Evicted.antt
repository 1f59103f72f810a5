-- An eviction makes one reload, and a list that is resolved has as many saves as reloads.
use Prim.Native.Nat.{ℕ, zero, suc, pred, ◌+◌}
use mathlib.Core.Path.{◌≡◌, refl, sym, ap, subst, ◌∙◌}
use mathlib.Core.Bool.{Bool}
use mathlib.Core.List.{List, [], ◌∷◌, reverse}
use mathlib.Core.Option.{Option, none, some}
use mathlib.Core.Logic.{◌⊎◌, inl, inr}
use native.Mathlib.Omega.{arith}
use lib.Dec.{eqb}
use lib.ListN.{length, take, drop}
use Rattle.entity.specs.Logic.{and, or, no, any_in, has, indices}
use Rattle.entity.specs.Place.{Place, reg, slot}
use Rattle.reginfo.specs.RegInfo.{RegInfo, bank_for_class, allocation_order, class_members, includes_spillslots, last_in_order, spillslot_size, stack_to_stack_class, is_memory}
use Rattle.function.specs.Function.{Function, remat_class}
use Rattle.rules.specs.Edit.{Edit, Rematerialize, each, find, filter}
use Rattle.rules.specs.Scratch.{Cache, ScratchAllocator, Evicted, Found, push, with_evicted, acquire, release_place, unevict, unevict_all, unevict_but, overlaps_evicted, unevict_for_reg, make_room, usable, meeting, searched_to, slot_scratch, evict_last, reuse, or_scratch, get_scratch_reg, nothing_barred, move_edits, do_move}
use Rattle.rules.specs.Order.{KeptMove, Remat, ParallelMoves, do_remat, remats, remat_with_scratch, source, dest, value, writers, cycle_move_sources, emit, noted, divert, carried, lead, lost, undivert, undivert_all, close, visit, visit_unless_memory, start, moves, with_state, Pending, Done, is_new, is_pending}
use Rattle.rules.specs.Patch.{Patch, Sorted, sorted, run}
use Rattle.rules.specs.Evictions.{saves, reloads, Evicts, AsMany}
use Rattle.rules.proofs.Steps.{All, all_then, all_after, branch, Every, all-each}
use Rattle.rules.proofs.Parts.{Parts, all-parts, filter_parts, drop-parts, parts-length}
use Rattle.rules.proofs.Evictions.{unevict-evicted}
use Rattle.rules.proofs.Accepted.{accepted}

taken : {A : Type 0} (P : A → Type 0) (o : Option A) (x : A) → All P o → o ≡ some x → P x
taken P o x h e = subst (All P) e h

all_there : {A : Type 0} (l : List A) → Every (λ m. Unit {0}) l
all_there [] = tt
all_there (m ∷ l) = (tt, all_there l)

module _ (t : RegInfo) (f : Function) where
  -- to bring back saves
  unevict-reloads : (l : List Evicted) (k : ScratchAllocator) → reloads (unevict t f l k).edits ≡ reloads k.edits
  unfolding unevict filter
  unevict-reloads [] k = refl
  unevict-reloads (e ∷ l) k = unevict-reloads l k

  unevict-saves : (l : List Evicted) (k : ScratchAllocator) → saves (unevict t f l k).edits ≡ length l + saves k.edits
  unfolding unevict filter
  unevict-saves [] k = omega arith
  unevict-saves (e ∷ l) k = omega (arith, unevict-saves l k)

  -- each reload has its save, or its register is held
  abbrev Even : ScratchAllocator → Type 0
  Even k = reloads k.edits ≡ saves k.edits + length k.evicted

  part-even : (k : ScratchAllocator) (es rest : List Evicted) → Parts es rest k.evicted → Even k → Even (unevict t f es (with_evicted rest k))
  part-even k es rest p h =
      omega (arith, unevict-reloads es (with_evicted rest k), unevict-saves es (with_evicted rest k), ap length (unevict-evicted t f es (with_evicted rest k)), parts-length es rest k.evicted p)

  for-even : (p : Place) (k : ScratchAllocator) → Even k → Even (unevict_for_reg t f p k)
  unfolding unevict_for_reg
  for-even p k h = part-even k (filter (overlaps_evicted t f p) k.evicted) (filter (λ e. no (overlaps_evicted t f p e)) k.evicted) (filter_parts (overlaps_evicted t f p) k.evicted) h

  room-even : (r : ℕ) (k : ScratchAllocator) → Even k → Even (make_room t f r k)
  unfolding make_room unevict_but
  room-even r k h =
      let k' = unevict_for_reg t f (reg r) k in
      part-even k' (drop (pred f.kept) k'.evicted) (take (pred f.kept) k'.evicted) (drop-parts (pred f.kept) k'.evicted) (for-even (reg r) k h)

  all-even : (k : ScratchAllocator) → Even k → Even (unevict_all t f k)
  all-even k h = part-even k k.evicted [] (all-parts k.evicted) h

  -- ---- searches
  abbrev EvenFound : Found → Type 0
  EvenFound x = Even x.scratch

  slot-even : (n b : ℕ) (k : ScratchAllocator) → Even k → All EvenFound (slot_scratch t f n b k)
  unfolding slot_scratch
  slot-even n b k h = all_after EvenFound _ _ (λ a. h)

  evict-even : (n b c : ℕ) (k : ScratchAllocator) → Even k → All EvenFound (evict_last t f n b c k)
  unfolding evict_last filter
  evict-even n b c k h = all_after EvenFound (acquire t f (spillslot_size t b) k.cache) _ (λ a. omega (arith, h))

  reuse-even : (es : List Evicted) (n b c : ℕ) (k : ScratchAllocator) → Even k → All EvenFound (reuse t f es n b c k)
  unfolding reuse
  reuse-even [] n b c k h = evict-even n b c (make_room t f (last_in_order t c) k) (room-even (last_in_order t c) k h)
  reuse-even (e ∷ es) n b c k h = branch (All EvenFound) (has e.reg (class_members t c)) _ _ (λ _. h) (λ _. reuse-even es n b c k h)

  or-even : (o : Option ℕ) (n b c : ℕ) (k : ScratchAllocator) → Even k → All EvenFound (or_scratch t f o n b c k)
  unfolding or_scratch
  or-even (some r) n b c k h = h
  or-even none n b c k h = branch (All EvenFound) (includes_spillslots t c) _ _ (λ _. slot-even n b k h) (λ _. reuse-even k.evicted n b c k h)

  search-even : (b c : ℕ) (barred : ℕ → Bool) (k : ScratchAllocator) → Even k → All EvenFound (get_scratch_reg t f b c barred k)
  unfolding get_scratch_reg
  search-even b c barred k h = or-even (find (usable t f barred k) (allocation_order t c)) (searched_to t f c barred k) b c (meeting (searched_to t f c barred k) k) h

  -- ---- moves and rebuilds
  edits-even : (b : ℕ) (to from : Place) (v : ℕ) (k : ScratchAllocator) → Even k → All Even (move_edits t f b to from v k)
  unfolding move_edits filter
  edits-even b to from v k h =
      branch (All Even) (and (is_memory t to) (is_memory t from)) _ _
      (λ _. all_then EvenFound Even (get_scratch_reg t f b (stack_to_stack_class t b) (nothing_barred t f) k) _ (search-even b (stack_to_stack_class t b) (nothing_barred t f) k h) (λ x q. q)) (λ _. h)

  move-even : (b : ℕ) (to from : Place) (v : ℕ) (k : ScratchAllocator) → Even k → All Even (do_move t f b to from v k)
  unfolding do_move
  move-even b to from v k h =
      all_then Even Even (move_edits t f b to from v (unevict_for_reg t f to (unevict_for_reg t f from k))) _
      (edits-even b to from v (unevict_for_reg t f to (unevict_for_reg t f from k)) (for-even to (unevict_for_reg t f from k) (for-even from k h))) (λ k' q. q)

  released : (z : ℕ) (p : Place) (k : ScratchAllocator) → Even k → Even (release_place t f z p k)
  released z (reg r) k h = h
  released z (slot s) k h = h

  remats-even : (l : List Remat) (k : ScratchAllocator) → Even k → Even (remats t f l k)
  unfolding remats filter
  remats-even [] k h = h
  remats-even (r ∷ l) k h = remats-even l (do_remat t f r k) h

  remat-even : (r : Remat) (k : ScratchAllocator) → Even k → All Even (remat_with_scratch t f r k)
  unfolding remat_with_scratch filter
  remat-even r k h =
      let b = bank_for_class t (remat_class f r.value) in
      all_then EvenFound Even (get_scratch_reg t f b (remat_class f r.value) (nothing_barred t f) (unevict_for_reg t f r.dest k)) _
      (search-even b (remat_class f r.value) (nothing_barred t f) (unevict_for_reg t f r.dest k) (for-even r.dest k h))
      (λ x q. all_then Even Even (move_edits t f b r.dest x.place r.value x.scratch) _ (edits-even b r.dest x.place r.value x.scratch q)
      (λ k' q'. released (spillslot_size t b) x.place (push (Rematerialize x.place r.value) k') q'))

  module _ (ms : List KeptMove) where
    abbrev EvenWalk : ParallelMoves → Type 0
    EvenWalk w = Even w.allocator

    emit-even : (i : ℕ) (from : Place) (w : ParallelMoves) → EvenWalk w → All EvenWalk (emit t f ms i from w)
    emit-even i from w h = all_then Even EvenWalk _ _ (move-even _ _ from _ w.allocator h) (λ k q. q)

    lead-even : (i : ℕ) (w : ParallelMoves) → EvenWalk w → All EvenWalk (lead t f ms i w)
    unfolding lead divert
    lead-even i w h =
        branch (All EvenWalk) (any_in (λ m. is_pending (w.state m)) (writers t f ms i)) _ _
        (λ _. branch (All EvenWalk) (eqb (w.diverted.ref_count (value t f ms i)) 0) _ _
        (λ _. all_then EvenFound EvenWalk _ _ (search-even _ _ (cycle_move_sources t f ms) w.allocator h) (λ x q. emit-even i x.place (noted t f ms i x (carried t f ms i w)) q))
        (λ _. emit-even i (w.scratch (value t f ms i)) (carried t f ms i w) h))
        (λ _. emit-even i (source t f ms i) w h)

    undivert-even : (i v : ℕ) (rest : List ℕ) (w : ParallelMoves) → EvenWalk w → All EvenWalk (undivert t f ms i v rest w)
    unfolding undivert
    undivert-even i v rest w h =
        branch (All EvenWalk) (eqb ((lost t f ms i v rest w.diverted).ref_count v) 0) _ _
        (λ _. all_then Even EvenWalk _ _ (move-even _ (w.scratch v) (w.alloc v) v w.allocator h) (λ k q. released _ (w.scratch v) k q)) (λ _. h)

    undivert_all-even : (i : ℕ) (l : List ℕ) (w : ParallelMoves) → EvenWalk w → All EvenWalk (undivert_all t f ms i l w)
    unfolding undivert_all
    undivert_all-even i [] w h = h
    undivert_all-even i (v ∷ l) w h = all_then EvenWalk EvenWalk (undivert t f ms i v l w) _ (undivert-even i v l w h) (undivert_all-even i l)

    close-even : (i : ℕ) (w : ParallelMoves) → EvenWalk w → All EvenWalk (close t f ms i w)
    unfolding close
    close-even i w h = all_then EvenWalk EvenWalk (lead t f ms i (with_state i Done w)) _ (lead-even i (with_state i Done w) h) (λ w' q. undivert_all-even i (w'.diverted.values i) w' q)

    visit-even : (d i : ℕ) (w : ParallelMoves) → EvenWalk w → All EvenWalk (visit t f ms d i w)
    unfolding visit
    visit-even zero i w h = branch (All EvenWalk) (is_new (w.state i)) _ _ (λ _. tt) (λ _. h)
    visit-even (suc d) i w h =
        branch (All EvenWalk) (is_new (w.state i)) _ _
        (λ _. all_then EvenWalk EvenWalk (each (visit t f ms d) (reverse (writers t f ms i)) (with_state i Pending w)) _
        (all-each EvenWalk (λ m. Unit {0}) (visit t f ms d) (λ m w' _ q. visit-even d m w' q) (reverse (writers t f ms i)) (all_there (reverse (writers t f ms i))) (with_state i Pending w) h)
        (λ w' q. close-even i w' q))
        (λ _. h)

    first-even : (i : ℕ) (w : ParallelMoves) → EvenWalk w → All EvenWalk (visit_unless_memory t f ms i w)
    unfolding visit_unless_memory
    first-even i w h = branch (All EvenWalk) (or (is_memory t (source t f ms i)) (is_memory t (dest t f ms i))) _ _ (λ _. h) (λ _. visit-even (length ms) i w h)

    -- at the end none is held
    moves-even : (k : ScratchAllocator) → Even k → All (λ k'. saves k'.edits ≡ reloads k'.edits) (moves t f ms k)
    unfolding moves start
    moves-even k h =
        all_then EvenWalk (λ k'. saves k'.edits ≡ reloads k'.edits) _ _
        (all_then EvenWalk EvenWalk (each (visit_unless_memory t f ms) (indices 0 (length ms)) (start t f ms k)) _
        (all-each EvenWalk (λ m. Unit {0}) (visit_unless_memory t f ms) (λ i w _ q. first-even i w q) (indices 0 (length ms)) (all_there (indices 0 (length ms))) (start t f ms k) h)
        (λ w q. all-each EvenWalk (λ m. Unit {0}) (visit t f ms (length ms)) (λ i w' _ q'. visit-even (length ms) i w' q') (indices 0 (length ms)) (all_there (indices 0 (length ms))) w q))
        (λ w q. omega (arith, all-even w.allocator q, ap length (unevict-evicted t f w.allocator.evicted (with_evicted [] w.allocator))))

  run-even : (p : Patch) (a : Sorted) (c : Cache) → All (λ k. saves k.edits ≡ reloads k.edits) (run t f p a c)
  unfolding run filter
  run-even p a c =
      all_then Even (λ k. saves k.edits ≡ reloads k.edits) _ (moves t f a.moves)
      (all-each Even (λ r. Unit {0}) (remat_with_scratch t f) (λ r k _ q. remat-even r k q) a.remats_with_scratch (all_there a.remats_with_scratch) _
      (remats-even a.remats (record { edits = []; available = λ u. has u p.free; evicted = []; cache = c; met = 0 }) refl)) (λ k q. moves-even a.moves k q)

  pub as_many : AsMany t f
  as_many p room c c' es n e =
      let r = accepted t f p room c c' es n e in
      subst (λ (l : List Edit). saves l ≡ reloads l) (sym r.edits) (taken (λ (k : ScratchAllocator). saves k.edits ≡ reloads k.edits) (run t f p (sorted t f p) c) r.allocator (run-even p (sorted t f p) c) r.ran)

  -- ---- what an eviction is
  for-reloads : (p : Place) (k : ScratchAllocator) → reloads (unevict_for_reg t f p k).edits ≡ reloads k.edits
  unfolding unevict_for_reg
  for-reloads p k = unevict-reloads _ _

  room-reloads : (r : ℕ) (k : ScratchAllocator) → reloads (make_room t f r k).edits ≡ reloads k.edits
  unfolding make_room unevict_but
  room-reloads r k = unevict-reloads _ _ ∙ for-reloads (reg r) k

  -- no reload, or what `evict_last` does
  abbrev Evicting : ℕ → ℕ → ScratchAllocator → Found → Type 0
  Evicting b c k x = (reloads x.scratch.edits ≡ reloads k.edits) ⊎ ((n : ℕ) × (k' : ScratchAllocator) × (reloads k'.edits ≡ reloads k.edits) × (evict_last t f n b c k' ≡ some x))

  reuse-evicts : (es : List Evicted) (n b c : ℕ) (k : ScratchAllocator) → All (Evicting b c k) (reuse t f es n b c k)
  unfolding reuse
  reuse-evicts [] n b c k = new (evict_last t f n b c (make_room t f (last_in_order t c) k)) refl
    where
      new : (o : Option Found) → evict_last t f n b c (make_room t f (last_in_order t c) k) ≡ o → All (Evicting b c k) o
      new none e = tt
      new (some x) e = inr (n, make_room t f (last_in_order t c) k, room-reloads (last_in_order t c) k, e)
  reuse-evicts (e ∷ es) n b c k = branch (All (Evicting b c k)) (has e.reg (class_members t c)) _ _ (λ _. inl refl) (λ _. reuse-evicts es n b c k)

  search-evicts : (b c : ℕ) (barred : ℕ → Bool) (k : ScratchAllocator) → All (Evicting b c k) (get_scratch_reg t f b c barred k)
  unfolding get_scratch_reg or_scratch slot_scratch
  search-evicts b c barred k = go (find (usable t f barred k) (allocation_order t c)) (searched_to t f c barred k)
    where
      go : (o : Option ℕ) (n : ℕ) → All (Evicting b c k) (or_scratch t f o n b c (meeting n k))
      go (some r) n = inl refl
      go none n =
          branch (All (Evicting b c k)) (includes_spillslots t c) _ _ (λ _. all_after (Evicting b c k) (acquire t f (spillslot_size t b) k.cache) _ (λ a. inl refl)) (λ _. reuse-evicts k.evicted n b c (meeting n k))

  evict-reloads : (n b c : ℕ) (k : ScratchAllocator) → All (λ x. reloads x.scratch.edits ≡ suc (reloads k.edits)) (evict_last t f n b c k)
  unfolding evict_last filter
  evict-reloads n b c k = all_after _ (acquire t f (spillslot_size t b) k.cache) _ (λ a. refl)

  pub evicts : Evicts t f
  evicts =
      record {
        one_more = λ n b c k x e. taken (λ (y : Found). reloads y.scratch.edits ≡ suc (reloads k.edits)) (evict_last t f n b c k) x (evict-reloads n b c k) e;
        search = λ b c barred k x e. taken (Evicting b c k) (get_scratch_reg t f b c barred k) x (search-evicts b c barred k) e;
        brought-back = λ l k. (unevict-reloads l k, unevict-saves l k);
      }

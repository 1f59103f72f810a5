-- With one kept eviction every step of the scratch keeper is 01's.
use Prim.Native.Nat.{ℕ, zero, suc, ◌<◌, ◌≤◌}
use mathlib.Core.Path.{◌≡◌, refl, ap, ap₂, ◌∙◌}
use mathlib.Core.Bool.{Bool, true, false}
use mathlib.Core.List.{List, [], ◌∷◌, reverse}
use mathlib.Core.Option.{Option, none, some}
use native.Mathlib.Omega.{arith}
use lib.Dec.{eqb}
use lib.ListN.{length}
use Rattle.entity.specs.Logic.{pick, or, no, any_in, has, indices}
use Rattle.entity.specs.Place.{Place, reg}
use Rattle.reginfo.specs.RegInfo.{RegInfo, bank_for_class, spillslot_size, top_level_class, allocation_order, class_members, includes_spillslots, last_in_order, stack_to_stack_class, is_memory}
use Rattle.function.specs.Function.{Function, remat_class}
use Rattle.rules.specs.Edit.{Rematerialize, and_then, each, find, filter}
use Rattle.rules.specs.Scratch.{Cache, Evicted, ScratchAllocator, Found, push, with_evicted, meeting, release_place, make_available, make_unavailable, unevict, unevict_all, unevict_but, overlaps_evicted, unevict_for_reg, make_room, usable, searched_to, nothing_barred, slot_scratch, evict_last, reuse, or_scratch, get_scratch_reg, move_edits, do_move}
use Rattle.rules.specs.Order.{KeptMove, Remat, Pending, Done, is_new, is_pending, ParallelMoves, with_allocator, with_state, with_diverted, do_remat, remats, remat_with_scratch, source, dest, value, bank, writers, cycle_move_sources, emit, noted, divert, carried, lead, lost, undivert, undivert_all, close, visit, visit_unless_memory, start, moves}
use Rattle.rules.specs.Patch.{Patch, Sorted, run}
use Rattle.consequences.specs.OneKept.{bring_back, back_if, back_for, back_all, evicting, failing, search, edits, emitting, rebuilding, putting, diverting, leading, losing, losing_all, closing, visiting, visiting_first, moving, running, AtOne}
use Rattle.rules.proofs.Steps.{All, all_then, branch, Every, all-each}
use Rattle.rules.proofs.Evictions.{for-few, search-few, remat-few, lead-few, undivert-few, visit-few}

-- what follows is the same where it is the same of each result
then_same : {A B : Type 0} (P : A → Type 0) (o : Option A) (g h : A → Option B) → All P o → ((a : A) → P a → g a ≡ h a) → and_then o g ≡ and_then o h
unfolding and_then
then_same P none g h a e = refl
then_same P (some x) g h a e = e x a

-- steps that are the same wherever an invariant holds, one after the other
each_same : {A B : Type 0} (P : A → Type 0) (g h : B → A → Option A) → ((x : B) (a : A) → P a → g x a ≡ h x a) → ((x : B) (a : A) → P a → All P (g x a)) → (l : List B) (a : A) → P a → each g l a ≡ each h l a
unfolding each
each_same P g h e k [] a p = refl
each_same P g h e k (x ∷ l) a p =
    then_same P (g x a) (each g l) (each h l) (k x a p) (λ b q. each_same P g h e k l b q) ∙ ap (λ o. and_then o (each h l)) (e x a p)

all_there : {A : Type 0} (l : List A) → Every (λ m. Unit {0}) l
all_there [] = tt
all_there (m ∷ l) = (tt, all_there l)

module _ (t : RegInfo) (f : Function) (one : f.kept ≡ 1) where
  -- to make room is to bring back the evicted one
  room-one : (r : ℕ) (k : ScratchAllocator) → length k.evicted ≤ 1 → make_room t f r k ≡ back_all t f k.evicted k
  unfolding make_room unevict_but unevict_for_reg filter unevict back_all
  room-one r k h = rw one (go k.evicted h)
    where
      go : (es : List Evicted) → length es ≤ 1 → unevict_but t f 0 (unevict_for_reg t f (reg r) (with_evicted es k)) ≡ back_all t f es (with_evicted es k)
      go [] l = refl
      go (e ∷ []) l = by (overlaps_evicted t f (reg r) e)
        where
          by : (b : Bool) → unevict_but t f 0 (unevict t f (pick b (e ∷ []) []) (with_evicted (pick (no b) (e ∷ []) []) k)) ≡ bring_back t f e (with_evicted (e ∷ []) k)
          by true = refl
          by false = refl
      go (e ∷ e' ∷ es) l = absurd (omega arith)

  back_one : (p : Place) (k : ScratchAllocator) → length k.evicted ≤ 1 → unevict_for_reg t f p k ≡ back_for t f p k
  unfolding unevict_for_reg filter unevict back_if
  back_one p k h = go k.evicted h
    where
      go : (es : List Evicted) → length es ≤ 1 → unevict_for_reg t f p (with_evicted es k) ≡ back_if t f p es (with_evicted es k)
      go [] l = refl
      go (e ∷ []) l = by (overlaps_evicted t f p e)
        where
          by : (b : Bool) → unevict t f (pick b (e ∷ []) []) (with_evicted (pick (no b) (e ∷ []) []) k) ≡ pick b (bring_back t f e (with_evicted (e ∷ []) k)) (with_evicted (e ∷ []) k)
          by true = refl
          by false = refl
      go (e ∷ e' ∷ es) l = absurd (omega arith)

  all_one : (k : ScratchAllocator) → length k.evicted ≤ 1 → unevict_all t f k ≡ back_all t f k.evicted k
  unfolding unevict back_all
  all_one k h = go k.evicted h
    where
      go : (es : List Evicted) → length es ≤ 1 → unevict_all t f (with_evicted es k) ≡ back_all t f es (with_evicted es k)
      go [] l = refl
      go (e ∷ []) l = refl
      go (e ∷ e' ∷ es) l = absurd (omega arith)

  evict-one : (n b c : ℕ) (k : ScratchAllocator) → length k.evicted ≤ 1 → reuse t f k.evicted n b c k ≡ evicting t f k.evicted n b c k
  unfolding reuse evicting back_all
  evict-one n b c k h = go k.evicted h
    where
      go : (es : List Evicted) → length es ≤ 1 → reuse t f es n b c (with_evicted es k) ≡ evicting t f es n b c (with_evicted es k)
      go [] l = ap (evict_last t f n b c) (room-one (last_in_order t c) (with_evicted [] k) l)
      go (e ∷ []) l =
          ap (pick (has e.reg (class_members t c)) (some (record { place = reg e.reg; position = n; scratch = with_evicted (e ∷ []) k })))
          (ap (evict_last t f n b c) (room-one (last_in_order t c) (with_evicted (e ∷ []) k) l))
      go (e ∷ e' ∷ es) l = absurd (omega arith)

  search-one : (b c : ℕ) (barred : ℕ → Bool) (k : ScratchAllocator) → length k.evicted ≤ 1 → get_scratch_reg t f b c barred k ≡ search t f b c barred k
  unfolding get_scratch_reg search or_scratch failing
  search-one b c barred k h = go (find (usable t f barred k) (allocation_order t c)) (searched_to t f c barred k)
    where
      go : (o : Option ℕ) (n : ℕ) → or_scratch t f o n b c (meeting n k) ≡ failing t f o n b c (meeting n k)
      go (some r) n = refl
      go none n = ap (pick (includes_spillslots t c) (slot_scratch t f n b (meeting n k))) (evict-one n b c (meeting n k) h)

  edits-one : (b : ℕ) (to from : Place) (v : ℕ) (k : ScratchAllocator) → length k.evicted ≤ 1 → move_edits t f b to from v k ≡ edits t f b to from v k
  unfolding move_edits edits
  edits-one b to from v k h = rw (search-one b (stack_to_stack_class t b) (nothing_barred t f) k h) refl

  few : (k : ScratchAllocator) → length k.evicted ≤ 1 → length k.evicted ≤ f.kept
  few k h = omega (arith, one)

  for-one : (p : Place) (k : ScratchAllocator) → length k.evicted ≤ 1 → length (unevict_for_reg t f p k).evicted ≤ 1
  for-one p k h = omega (arith, one, for-few t f p k (few k h))

  move-one : (b : ℕ) (to from : Place) (v : ℕ) (k : ScratchAllocator) → length k.evicted ≤ 1 → do_move t f b to from v k ≡ emitting t f b to from v k
  unfolding do_move emitting
  move-one b to from v k h =
      let k' = unevict_for_reg t f from k in
      let h' = for-one from k h in
      ap (λ (o : Option ScratchAllocator). and_then o (λ x. some (make_unavailable t f from (make_available t f to x))))
      (edits-one b to from v (unevict_for_reg t f to k') (for-one to k' h') ∙ ap (edits t f b to from v) (back_one to k' h' ∙ ap (back_for t f to) (back_one from k h)))

  remat-one : (r : Remat) (k : ScratchAllocator) → length k.evicted ≤ 1 → remat_with_scratch t f r k ≡ rebuilding t f r k
  unfolding remat_with_scratch rebuilding
  remat-one r k h =
      let c = remat_class f r.value in
      let b = bank_for_class t c in
      let k' = unevict_for_reg t f r.dest k in
      then_same (λ (x : Found). length x.scratch.evicted ≤ f.kept) (get_scratch_reg t f b c (nothing_barred t f) k') _ _
      (search-few t f (omega (arith, one)) b c (nothing_barred t f) k' (for-few t f r.dest k (few k h)))
      (λ x q. ap (λ (o : Option ScratchAllocator). and_then o (λ y. some (make_available t f r.dest (release_place t f (spillslot_size t b) x.place (push (Rematerialize x.place r.value) y)))))
      (edits-one b r.dest x.place r.value x.scratch (omega (arith, one, q))))
      ∙ ap (λ (o : Option Found). and_then o (λ x. and_then (edits t f b r.dest x.place r.value x.scratch) (λ y. some (make_available t f r.dest (release_place t f (spillslot_size t b) x.place (push (Rematerialize x.place r.value) y))))))
      (search-one b c (nothing_barred t f) k' (for-one r.dest k h) ∙ ap (search t f b c (nothing_barred t f)) (back_one r.dest k h))

  -- ---- the kept moves
  module _ (ms : List KeptMove) where
    abbrev Held : ParallelMoves → Type 0
    Held w = length w.allocator.evicted ≤ f.kept

    some-kept : 0 < f.kept
    some-kept = omega (arith, one)

    put_one : (i : ℕ) (from : Place) (w : ParallelMoves) → Held w → emit t f ms i from w ≡ putting t f ms i from w
    put_one i from w h =
        ap (λ (o : Option ScratchAllocator). and_then o (λ k. some (with_allocator k w)))
        (move-one (bank t f ms (value t f ms i)) (dest t f ms i) from (value t f ms i) w.allocator (omega (arith, one, h)))

    divert-one : (i : ℕ) (w : ParallelMoves) → Held w → divert t f ms i w ≡ diverting t f ms i w
    unfolding divert diverting
    divert-one i w h =
        let b = bank t f ms (value t f ms i) in
        then_same (λ (x : Found). length x.scratch.evicted ≤ f.kept) (get_scratch_reg t f b (top_level_class t b) (cycle_move_sources t f ms) w.allocator) _ _
        (search-few t f some-kept b (top_level_class t b) (cycle_move_sources t f ms) w.allocator h) (λ x q. put_one i x.place (noted t f ms i x w) q)
        ∙ ap (λ (o : Option Found). and_then o (λ x. putting t f ms i x.place (noted t f ms i x w))) (search-one b (top_level_class t b) (cycle_move_sources t f ms) w.allocator (omega (arith, one, h)))

    lead-one : (i : ℕ) (w : ParallelMoves) → Held w → lead t f ms i w ≡ leading t f ms i w
    unfolding lead leading
    lead-one i w h =
        ap₂ (λ (x y : Option ParallelMoves). pick (any_in (λ m. is_pending (w.state m)) (writers t f ms i)) x y)
        (ap₂ (λ (x y : Option ParallelMoves). pick (eqb (w.diverted.ref_count (value t f ms i)) 0) x y) (divert-one i (carried t f ms i w) h) (put_one i (w.scratch (value t f ms i)) (carried t f ms i w) h))
        (put_one i (source t f ms i) w h)

    lose-one : (i v : ℕ) (rest : List ℕ) (w : ParallelMoves) → Held w → undivert t f ms i v rest w ≡ losing t f ms i v rest w
    unfolding undivert losing
    lose-one i v rest w h =
        ap (λ (o : Option ScratchAllocator). pick (eqb ((lost t f ms i v rest w.diverted).ref_count v) 0)
        (and_then o (λ k. some (with_diverted (lost t f ms i v rest w.diverted) (with_allocator (release_place t f (spillslot_size t (bank t f ms v)) (w.scratch v) k) w))))
        (some (with_diverted (lost t f ms i v rest w.diverted) w)))
        (move-one (bank t f ms v) (w.scratch v) (w.alloc v) v w.allocator (omega (arith, one, h)))

    lose-all-one : (i : ℕ) (l : List ℕ) (w : ParallelMoves) → Held w → undivert_all t f ms i l w ≡ losing_all t f ms i l w
    unfolding undivert_all losing_all
    lose-all-one i [] w h = refl
    lose-all-one i (v ∷ l) w h =
        then_same Held (undivert t f ms i v l w) _ _ (undivert-few t f some-kept ms i v l w h) (λ w' q. lose-all-one i l w' q)
        ∙ ap (λ (o : Option ParallelMoves). and_then o (losing_all t f ms i l)) (lose-one i v l w h)

    close-one : (i : ℕ) (w : ParallelMoves) → Held w → close t f ms i w ≡ closing t f ms i w
    unfolding close closing
    close-one i w h =
        then_same Held (lead t f ms i (with_state i Done w)) _ _ (lead-few t f some-kept ms i (with_state i Done w) h) (λ w' q. lose-all-one i (w'.diverted.values i) w' q)
        ∙ ap (λ (o : Option ParallelMoves). and_then o (λ w'. losing_all t f ms i (w'.diverted.values i) w')) (lead-one i (with_state i Done w) h)

    visit-one : (d i : ℕ) (w : ParallelMoves) → Held w → visit t f ms d i w ≡ visiting t f ms d i w
    unfolding visit visiting
    visit-one zero i w h = refl
    visit-one (suc d) i w h =
        let ws = reverse (writers t f ms i) in
        let w° = with_state i Pending w in
        ap (λ (o : Option ParallelMoves). pick (is_new (w.state i)) o (some w))
        (then_same Held (each (visit t f ms d) ws w°) _ _ (all-each Held (λ m. Unit {0}) (visit t f ms d) (λ m w' _ q. visit-few t f some-kept ms d m w' q) ws (all_there ws) w° h) (λ w' q. close-one i w' q)
        ∙ ap (λ (o : Option ParallelMoves). and_then o (closing t f ms i)) (each_same Held (visit t f ms d) (visiting t f ms d) (λ m w' q. visit-one d m w' q) (λ m w' q. visit-few t f some-kept ms d m w' q) ws w° h))

    first-few : (i : ℕ) (w : ParallelMoves) → Held w → All Held (visit_unless_memory t f ms i w)
    unfolding visit_unless_memory
    first-few i w h = branch (All Held) (or (is_memory t (source t f ms i)) (is_memory t (dest t f ms i))) _ _ (λ _. h) (λ _. visit-few t f some-kept ms (length ms) i w h)

    first_one : (i : ℕ) (w : ParallelMoves) → Held w → visit_unless_memory t f ms i w ≡ visiting_first t f ms i w
    unfolding visit_unless_memory visiting_first
    first_one i w h = ap (λ (o : Option ParallelMoves). pick (or (is_memory t (source t f ms i)) (is_memory t (dest t f ms i))) (some w) o) (visit-one (length ms) i w h)

    moves-one : (k : ScratchAllocator) → length k.evicted ≤ f.kept → moves t f ms k ≡ moving t f ms k
    unfolding moves moving start
    moves-one k h =
        let is = indices 0 (length ms) in
        let begun = start t f ms k in
        let few_first : All Held (each (visit_unless_memory t f ms) is begun) = all-each Held (λ m. Unit {0}) (visit_unless_memory t f ms) (λ i w _ q. first-few i w q) is (all_there is) begun h in
        let few_both : All Held (and_then (each (visit_unless_memory t f ms) is begun) (each (visit t f ms (length ms)) is)) =
        all_then Held Held (each (visit_unless_memory t f ms) is begun) (each (visit t f ms (length ms)) is) few_first
        (λ w q. all-each Held (λ m. Unit {0}) (visit t f ms (length ms)) (λ i w' _ r. visit-few t f some-kept ms (length ms) i w' r) is (all_there is) w q) in
        then_same Held (and_then (each (visit_unless_memory t f ms) is begun) (each (visit t f ms (length ms)) is)) _ _ few_both (λ w q. ap some (all_one w.allocator (omega (arith, one, q))))
        ∙ ap (λ (o : Option ParallelMoves). and_then o (λ w. some (back_all t f w.allocator.evicted w.allocator)))
        (then_same Held (each (visit_unless_memory t f ms) is begun) (each (visit t f ms (length ms)) is) (each (visiting t f ms (length ms)) is) few_first
        (λ w q. each_same Held (visit t f ms (length ms)) (visiting t f ms (length ms)) (λ i w' r. visit-one (length ms) i w' r) (λ i w' r. visit-few t f some-kept ms (length ms) i w' r) is w q)
        ∙ ap (λ (o : Option ParallelMoves). and_then o (each (visiting t f ms (length ms)) is))
        (each_same Held (visit_unless_memory t f ms) (visiting_first t f ms) (λ i w' r. first_one i w' r) (λ i w' r. first-few i w' r) is begun h))

  remats-few : (l : List Remat) (k : ScratchAllocator) → length k.evicted ≤ f.kept → length (remats t f l k).evicted ≤ f.kept
  unfolding remats
  remats-few [] k h = h
  remats-few (r ∷ l) k h = remats-few l (do_remat t f r k) h

  run-one : (p : Patch) (a : Sorted) (c : Cache) → run t f p a c ≡ running t f p a c
  unfolding run running
  run-one p a c =
      let k = remats t f a.remats (record { edits = []; available = λ u. has u p.free; evicted = []; cache = c; met = 0 }) in
      let rs = a.remats_with_scratch in
      let sk : 0 < f.kept = omega (arith, one) in
      let h : length k.evicted ≤ f.kept = remats-few a.remats (record { edits = []; available = λ u. has u p.free; evicted = []; cache = c; met = 0 }) (omega arith) in
      let after : All (λ (x : ScratchAllocator). length x.evicted ≤ f.kept) (each (remat_with_scratch t f) rs k) =
      all-each (λ (x : ScratchAllocator). length x.evicted ≤ f.kept) (λ r. Unit {0}) (remat_with_scratch t f) (λ r x _ q. remat-few t f sk r x q) rs (all_there rs) k h in
      then_same (λ (x : ScratchAllocator). length x.evicted ≤ f.kept) (each (remat_with_scratch t f) rs k) (moves t f a.moves) (moving t f a.moves) after (λ x q. moves-one a.moves x q)
      ∙ ap (λ (o : Option ScratchAllocator). and_then o (moving t f a.moves))
      (each_same (λ (x : ScratchAllocator). length x.evicted ≤ f.kept) (remat_with_scratch t f) (rebuilding t f) (λ r x q. remat-one r x (omega (arith, one, q))) (λ r x q. remat-few t f sk r x q) rs k h)

pub at_one : (t : RegInfo) (f : Function) → AtOne t f
at_one t f one =
    record {
      steps =
          record {
            room = room-one t f one;
            back = back_one t f one;
            searched = search-one t f one;
            moved = move-one t f one;
            rematted = remat-one t f one;
            ended = all_one t f one;
          };
      runs = run-one t f one;
    }

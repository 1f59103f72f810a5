-- Demand 3: the edits of an accepted call number at most the bound.
use Prim.Native.Nat.{ℕ, zero, suc, pred, ◌+◌, ◌*◌, ◌<◌, ◌≤◌}
use mathlib.Core.Path.{◌≡◌, refl, sym, ap, subst, ◌∙◌}
use mathlib.Core.Bool.{Bool, true, false, false≢true}
use mathlib.Core.List.{List, [], ◌∷◌, reverse}
use mathlib.Core.Option.{Option, none, some}
use mathlib.Core.Logic.{◌⊎◌, inl, inr, ⊎_elim}
use native.Mathlib.Omega.{arith}
use lib.Dec.{eqb}
use borrow.Author.Tests.{eqb-true}
use lib.ListN.{length, get_or, take, drop}
use Rattle.entity.specs.Logic.{and, or, no, any_in, has, indices}
use Rattle.entity.proofs.Laws.{and-true}
use Rattle.entity.specs.Place.{Place, reg, slot}
use Rattle.reginfo.specs.RegInfo.{bank_for_class, RegInfo, num_banks, num_classes, allocation_order, class_members, includes_spillslots, is_memory, last_in_order, spillslot_size, top_level_class, stack_to_stack_class}
use Rattle.reginfo.specs.Refused as target
use Rattle.reginfo.proofs.Accepted.{top-slots, last-memory}
use Rattle.function.specs.Function.{Function, num_values, value_bank, remat_class, can_rematerialize}
use Rattle.function.specs.Refused as function
use Rattle.function.proofs.Laws.{bank-there, class-there}
use Rattle.rules.specs.Edit.{Edit, Rematerialize, and_then, each, find, filter}
use Rattle.rules.specs.Scratch.{Cache, Evicted, ScratchAllocator, push, with_evicted, Found, unevict, unevict_all, unevict_but, overlaps_evicted, unevict_for_reg, make_room, acquire, release_place, usable, slot_scratch, evict_last, reuse, or_scratch, get_scratch_reg, nothing_barred, move_edits, do_move, meeting, searched_to}
use Rattle.rules.specs.Order.{KeptMove, no_move, Remat, State, New, Pending, Done, is_new, is_pending, Diverted, ParallelMoves, with_state, carry, do_remat, remats, remat_with_scratch, source, dest, value, bank, writers, cycle_move_sources, emit, noted, divert, carried, lead, lost, undivert, undivert_all, close, visit, visit_unless_memory, start, moves, no_remat}
use Rattle.rules.specs.Patch.{Patch, Sorted, sorted, bound, run}
use Rattle.rules.specs.Sorted.{MoveOk, RematOk, SortedOk, Ran}
use Rattle.rules.proofs.News.{news-all, news-open, news-close}
use Rattle.rules.proofs.Writers.{writers-low}
use Rattle.rules.proofs.Sum.{sum-change, sum-part, sum-zero}
use Rattle.rules.proofs.Parts.{Parts, all-parts, filter_parts, drop-parts, parts-length}
use Rattle.rules.proofs.Evictions.{unevict-evicted}
use Rattle.rules.proofs.Steps.{All, all_then, all_after, all_map, branch, Every, every-get_d, every-reverse, every-index, all-each, updated-same, updated-other}
use Rattle.machine.specs.Paid.{owed, occurs, sign, live, Counted, spent, Paid}
use Rattle.machine.proofs.Diversions.{Grown, carry-grown, was-live, lost-counted}

sign_le : (n : ℕ) → sign n ≤ 1
unfolding sign
sign_le zero = omega arith
sign_le (suc n) = omega arith

sign_pos : (n : ℕ) → 0 < n → sign n ≡ 1
unfolding sign
sign_pos zero h = absurd (omega arith)
sign_pos (suc n) h = refl

sign_zero : (n : ℕ) → n ≡ 0 → sign n ≡ 0
unfolding sign
sign_zero zero h = refl
sign_zero (suc n) h = absurd (omega arith)

-- each value has a bank there is, and a class there is to be rebuilt in
pub record Placed (t : RegInfo) (f : Function) : Type 0 where
  pub bank : (v : ℕ) → v < num_values f → value_bank f v < num_banks t
  pub class : (v : ℕ) → v < num_values f → can_rematerialize f v ≡ true → remat_class f v < num_classes t

pub placed : (t : RegInfo) (f : Function) → function.Accepted t f → Placed t f
placed t f af = record { bank = λ v h. bank-there t f af v h; class = λ v h r. class-there t f af v h r }

module _ (t : RegInfo) (f : Function) where
  unevict-edits : (l : List Evicted) (k : ScratchAllocator) → length (unevict t f l k).edits ≡ length l + length k.edits
  unfolding unevict
  unevict-edits [] k = omega arith
  unevict-edits (e ∷ l) k = omega (arith, unevict-edits l k)

  -- to bring back pays what was owed
  unevict-owed : (l : List Evicted) (k : ScratchAllocator) → owed (unevict t f l k) ≡ length l + owed k
  unevict-owed l k = omega (arith, unevict-edits l k, ap length (unevict-evicted t f l k))

  part-owed : (k : ScratchAllocator) (es rest : List Evicted) → Parts es rest k.evicted → owed (unevict t f es (with_evicted rest k)) ≡ owed k
  part-owed k es rest h = omega (arith, unevict-owed es (with_evicted rest k), parts-length es rest k.evicted h)

  all-owed : (k : ScratchAllocator) → owed (unevict_all t f k) ≡ owed k
  all-owed k = part-owed k k.evicted [] (all-parts k.evicted)

  some-owed : (p : Place) (k : ScratchAllocator) → owed (unevict_for_reg t f p k) ≡ owed k
  unfolding unevict_for_reg
  some-owed p k = part-owed k (filter (overlaps_evicted t f p) k.evicted) (filter (λ e. no (overlaps_evicted t f p e)) k.evicted) (filter_parts (overlaps_evicted t f p) k.evicted)

  room-owed : (r : ℕ) (k : ScratchAllocator) → owed (make_room t f r k) ≡ owed k
  unfolding make_room unevict_but
  room-owed r k =
      let k' = unevict_for_reg t f (reg r) k in
      part-owed k' (drop (pred f.kept) k'.evicted) (take (pred f.kept) k'.evicted) (drop-parts (pred f.kept) k'.evicted) ∙ some-owed (reg r) k

  -- a search: nothing more is owed, or the last of a class without slots is evicted
  abbrev Searched : ℕ → ℕ → Found → Type 0
  Searched c m x = (owed x.scratch ≤ m) ⊎ ((owed x.scratch ≤ m + 2) × (x.place ≡ reg (last_in_order t c)) × (includes_spillslots t c ≡ false))

  module _ (b c m : ℕ) where
    slot-owed : (n : ℕ) (k : ScratchAllocator) → owed k ≤ m → All (Searched c m) (slot_scratch t f n b k)
    unfolding slot_scratch
    slot-owed n k h = all_after (Searched c m) (acquire t f (spillslot_size t b) k.cache) _ (λ a. inl h)

    evict-owed : (n : ℕ) (k : ScratchAllocator) → owed k ≤ m → includes_spillslots t c ≡ false → All (Searched c m) (evict_last t f n b c k)
    unfolding evict_last
    evict-owed n k h s = all_after (Searched c m) (acquire t f (spillslot_size t b) k.cache) _ (λ a. inr (omega arith, refl, s))

    reuse-owed : (l : List Evicted) (n : ℕ) (k : ScratchAllocator) → owed k ≤ m → includes_spillslots t c ≡ false → All (Searched c m) (reuse t f l n b c k)
    unfolding reuse
    reuse-owed [] n k h s = evict-owed n (make_room t f (last_in_order t c) k) (omega (arith, room-owed (last_in_order t c) k)) s
    reuse-owed (e ∷ l) n k h s = branch (All (Searched c m)) (has e.reg (class_members t c)) _ _ (λ _. inl h) (λ _. reuse-owed l n k h s)

    found-owed : (o : Option ℕ) (n : ℕ) (k : ScratchAllocator) → owed k ≤ m → All (Searched c m) (or_scratch t f o n b c k)
    unfolding or_scratch
    found-owed (some r) n k h = inl h
    found-owed none n k h = branch (All (Searched c m)) (includes_spillslots t c) _ _ (λ _. slot-owed n k h) (λ s. reuse-owed k.evicted n k h s)

    search-owed : (barred : ℕ → Bool) (k : ScratchAllocator) → owed k ≤ m → All (Searched c m) (get_scratch_reg t f b c barred k)
    unfolding get_scratch_reg
    search-owed barred k h = found-owed (find (usable t f barred k) (allocation_order t c)) (searched_to t f c barred k) (meeting (searched_to t f c barred k) k) h

    -- a class with slots evicts nothing
    slots-owed : includes_spillslots t c ≡ true → (barred : ℕ → Bool) (k : ScratchAllocator) → owed k ≤ m → All (λ x. owed x.scratch ≤ m) (get_scratch_reg t f b c barred k)
    slots-owed s barred k h =
        all_map (Searched c m) (λ x. owed x.scratch ≤ m) (get_scratch_reg t f b c barred k) (λ x. ⊎_elim (λ q. q) (λ q. absurd (false≢true (sym q.2 ∙ s))))
        (search-owed barred k h)

  -- an emission: at most two moves, a reload and its save; one move unless both are memory
  module _ (b : ℕ) (to from : Place) (v : ℕ) where
    edits-owed : (m : ℕ) (k : ScratchAllocator) → owed k ≤ m → All (λ k'. owed k' ≤ m + 4) (move_edits t f b to from v k)
    unfolding move_edits
    edits-owed m k h =
        branch (All (λ k'. owed k' ≤ m + 4)) (and (is_memory t to) (is_memory t from)) _ _
        (λ _. all_then (Searched (stack_to_stack_class t b) m) (λ k'. owed k' ≤ m + 4) (get_scratch_reg t f b (stack_to_stack_class t b) (nothing_barred t f) k) _
        (search-owed b (stack_to_stack_class t b) m (nothing_barred t f) k h) (λ x. ⊎_elim (λ q. omega arith) (λ q. omega arith)))
        (λ _. omega arith)

    edit-owed : (m : ℕ) (k : ScratchAllocator) → is_memory t from ≡ false → owed k ≤ m → All (λ k'. owed k' ≤ m + 1) (move_edits t f b to from v k)
    unfolding move_edits
    edit-owed m k n h =
        branch (All (λ k'. owed k' ≤ m + 1)) (and (is_memory t to) (is_memory t from)) _ _ (λ e. absurd (false≢true (sym n ∙ (and-true (is_memory t to) (is_memory t from) e).1))) (λ _. omega arith)

    move-owed : (m : ℕ) (k : ScratchAllocator) → owed k ≤ m → All (λ k'. owed k' ≤ m + 4) (do_move t f b to from v k)
    unfolding do_move
    move-owed m k h =
        all_then (λ k'. owed k' ≤ m + 4) (λ k'. owed k' ≤ m + 4) (move_edits t f b to from v (unevict_for_reg t f to (unevict_for_reg t f from k))) _
        (edits-owed m (unevict_for_reg t f to (unevict_for_reg t f from k)) (omega (arith, some-owed to (unevict_for_reg t f from k), some-owed from k)))
        (λ k' q. q)

  release-owed : (z : ℕ) (p : Place) (k : ScratchAllocator) → owed (release_place t f z p k) ≡ owed k
  release-owed z (slot s) k = refl
  release-owed z (reg r) k = refl

  -- a rebuild without scratch is one edit
  pub remats-owed : (l : List Remat) (k : ScratchAllocator) → owed (remats t f l k) ≡ length l + owed k
  unfolding remats
  remats-owed [] k = omega arith
  remats-owed (r ∷ l) k = omega (arith, remats-owed l (do_remat t f r k))

  module _ (at : target.Accepted t) (af : Placed t f) where
    -- a rebuild with scratch: a rebuild, two moves, a reload and its save; where its own search evicts, its scratch is no memory
    module _ (r : Remat) (ok : RematOk t f false r) where
      c : ℕ
      c = remat_class f r.value

      b : ℕ
      b = bank_for_class t c

      last-plain : (x : Found) → x.place ≡ reg (last_in_order t c) → includes_spillslots t c ≡ false → is_memory t x.place ≡ false
      unfolding c
      last-plain x e s = ap (is_memory t) e ∙ last-memory t at c (af.class r.value ok.value-named ok.can) s

      pub scratch-owed : (k : ScratchAllocator) → All (λ k'. owed k' ≤ owed k + 5) (remat_with_scratch t f r k)
      unfolding remat_with_scratch b c
      scratch-owed k =
          all_then (Searched c (owed k)) (λ k'. owed k' ≤ owed k + 5) (get_scratch_reg t f b c (nothing_barred t f) (unevict_for_reg t f r.dest k)) _
          (search-owed b c (owed k) (nothing_barred t f) (unevict_for_reg t f r.dest k) (omega (arith, some-owed r.dest k)))
          (λ x. ⊎_elim
          (λ q. all_then (λ k'. owed k' ≤ owed k + 4) (λ k'. owed k' ≤ owed k + 5) (move_edits t f b r.dest x.place r.value x.scratch) _
          (edits-owed b r.dest x.place r.value (owed k) x.scratch q)
          (λ k' h. omega (arith, release-owed (spillslot_size t b) x.place (push (Rematerialize x.place r.value) k'))))
          (λ q. all_then (λ k'. owed k' ≤ owed k + 2 + 1) (λ k'. owed k' ≤ owed k + 5) (move_edits t f b r.dest x.place r.value x.scratch) _
          (edit-owed b r.dest x.place r.value (owed k + 2) x.scratch (last-plain x q.1 q.2) q.0)
          (λ k' h. omega (arith, release-owed (spillslot_size t b) x.place (push (Rematerialize x.place r.value) k')))))

    pub each-owed : (l : List Remat) → Every (RematOk t f false) l → (k : ScratchAllocator) → All (λ k'. owed k' ≤ owed k + 5 * length l) (each (remat_with_scratch t f) l k)
    unfolding each
    each-owed [] q k = omega arith
    each-owed (r ∷ l) q k =
        all_then (λ k'. owed k' ≤ owed k + 5) (λ k'. owed k' ≤ owed k + 5 * suc (length l)) (remat_with_scratch t f r k) _ (scratch-owed r q.0 k)
        (λ k' h. all_map (λ k''. owed k'' ≤ owed k' + 5 * length l) (λ k''. owed k'' ≤ owed k + 5 * suc (length l)) (each (remat_with_scratch t f) l k') (λ k'' g. omega arith)
        (each-owed l q.1 k'))

    module _ (ms : List KeptMove) (ok : (i : ℕ) → i < length ms → MoveOk t f (get_or ms i no_move)) where
      abbrev pub n : ℕ
      n = length ms

      -- a value that is carried is one of them
      pub live-some : (d : Diverted) (v : ℕ) → v < num_values f → 0 < d.ref_count v → 1 ≤ live t f d
      unfolding live
      live-some d v vl h = omega (arith, sum-part (λ x. sign (d.ref_count x)) (num_values f) v vl, sign_pos (d.ref_count v) h)

      pub live-grown : (v : ℕ) (state : ℕ → State) (d d' : Diverted) → v < num_values f → Grown t f ms v state d d' → live t f d' ≤ suc (live t f d)
      unfolding live
      live-grown v state d d' vl g =
          omega (arith, sum-change (λ x. sign (d'.ref_count x)) (λ x. sign (d.ref_count x)) (num_values f) v vl (λ x q. ap sign (g.others x q)), sign_le (d'.ref_count v))

      module _ (i : ℕ) (il : i < n) (v : ℕ) (rest : List ℕ) (d : Diverted) (e : d.values i ≡ v ∷ rest) (o : Counted t f ms d) where
        live-change : live t f (lost t f ms i v rest d) + 1 ≡ live t f d + sign (pred (d.ref_count v))
        unfolding live
        live-change =
            omega (
              arith,
              sum-change (λ x. sign ((lost t f ms i v rest d).ref_count x)) (λ x. sign (d.ref_count x)) (num_values f) v (o.small v (was-live t f ms i il v rest d e o))
                  (λ x q. ap sign (updated-other v (pred (d.ref_count v)) d.ref_count x q)),
              ap sign (updated-same v (pred (d.ref_count v)) d.ref_count),
              sign_pos (d.ref_count v) (was-live t f ms i il v rest d e o),
            )

        pub live-kept : live t f (lost t f ms i v rest d) ≤ live t f d
        live-kept = omega (arith, live-change, sign_le (pred (d.ref_count v)))

        -- at zero a diversion ends
        live-less : (lost t f ms i v rest d).ref_count v ≡ 0 → live t f (lost t f ms i v rest d) < live t f d
        live-less z = omega (arith, live-change, sign_zero (pred (d.ref_count v)) (sym (updated-same v (pred (d.ref_count v)) d.ref_count) ∙ z))

      pub emit-paid : (a b i : ℕ) (from : Place) (w : ParallelMoves) → Paid t f ms a w → a + 4 ≤ b → All (Paid t f ms b) (emit t f ms i from w)
      emit-paid a b i from w p h =
          all_then (λ k. owed k ≤ owed w.allocator + 4) (Paid t f ms b) (do_move t f (bank t f ms (value t f ms i)) (dest t f ms i) from (value t f ms i) w.allocator) _
          (move-owed (bank t f ms (value t f ms i)) (dest t f ms i) from (value t f ms i) (owed w.allocator) w.allocator (omega arith))
          (λ k q. record { paid = omega (arith, p.paid); counted = p.counted })

      module _ (i : ℕ) (il : i < n) where
        named : value t f ms i < num_values f
        named = (ok i il).value-named

        carried-paid : (a : ℕ) (w : ParallelMoves) → Paid t f ms a w → Paid t f ms (a + 4) (carried t f ms i w)
        carried-paid a w p =
            let g = (carry-grown t f ms (value t f ms i) named w.state (writers t f ms i) (writers-low t f ms i) w.diverted p.counted).0 in
            record { paid = omega (arith, p.paid, live-grown (value t f ms i) w.state w.diverted (carry (value t f ms i) w.state (writers t f ms i) w.diverted) named g); counted = g.counted }

        divert-paid : (a b : ℕ) (w : ParallelMoves) → Paid t f ms a w → a + 4 ≤ b → All (Paid t f ms b) (divert t f ms i w)
        unfolding divert
        divert-paid a b w p h =
            all_then (λ x. owed x.scratch ≤ owed w.allocator) (Paid t f ms b)
            (get_scratch_reg t f (bank t f ms (value t f ms i)) (top_level_class t (bank t f ms (value t f ms i))) (cycle_move_sources t f ms) w.allocator) _
            (slots-owed (bank t f ms (value t f ms i)) (top_level_class t (bank t f ms (value t f ms i))) (owed w.allocator)
            (top-slots t at (bank t f ms (value t f ms i)) (af.bank (value t f ms i) named)) (cycle_move_sources t f ms) w.allocator (omega arith))
            (λ x q. emit-paid a b i x.place (noted t f ms i x w) (record { paid = omega (arith, p.paid); counted = p.counted }) h)

        pub lead-paid : (a b : ℕ) (w : ParallelMoves) → Paid t f ms a w → a + 8 ≤ b → All (Paid t f ms b) (lead t f ms i w)
        unfolding lead
        lead-paid a b w p h =
            branch (All (Paid t f ms b)) (any_in (λ m. is_pending (w.state m)) (writers t f ms i)) _ _
            (λ _. branch (All (Paid t f ms b)) (eqb (w.diverted.ref_count (value t f ms i)) 0) _ _
            (λ _. divert-paid (a + 4) b (carried t f ms i w) (carried-paid a w p) (omega arith))
            (λ _. emit-paid (a + 4) b i (w.scratch (value t f ms i)) (carried t f ms i w) (carried-paid a w p) (omega arith)))
            (λ _. emit-paid a b i (source t f ms i) w p (omega arith))

        -- the copy of a diversion that ends is paid by its end
        module _ (a v : ℕ) (l : List ℕ) (w : ParallelMoves) (e : w.diverted.values i ≡ v ∷ l) (p : Paid t f ms a w) where
          abbrev pub Left : ParallelMoves → Type 0
          Left w' = Paid t f ms a w' × (w'.diverted.values i ≡ l)

          pub undivert-paid : All Left (undivert t f ms i v l w)
          unfolding undivert
          undivert-paid =
              branch (All Left) (eqb ((lost t f ms i v l w.diverted).ref_count v) 0) _ _
              (λ z. all_then (λ k. owed k ≤ owed w.allocator + 4) Left (do_move t f (bank t f ms v) (w.scratch v) (w.alloc v) v w.allocator) _
              (move-owed (bank t f ms v) (w.scratch v) (w.alloc v) v (owed w.allocator) w.allocator (omega arith))
              (λ k q. (
                record {
                  paid = omega (arith, p.paid, release-owed (spillslot_size t (bank t f ms v)) (w.scratch v) k, live-less i il v l w.diverted e p.counted (eqb-true ((lost t f ms i v l w.diverted).ref_count v) 0 z));
                  counted = lost-counted t f ms i il v l w.diverted e p.counted;
                },
                updated-same i l w.diverted.values,
              )))
              (λ _. (
                record { paid = omega (arith, p.paid, live-kept i il v l w.diverted e p.counted); counted = lost-counted t f ms i il v l w.diverted e p.counted },
                updated-same i l w.diverted.values,
              ))

        pub undivert_all-paid : (a : ℕ) (l : List ℕ) (w : ParallelMoves) → w.diverted.values i ≡ l → Paid t f ms a w → All (Paid t f ms a) (undivert_all t f ms i l w)
        unfolding undivert_all
        undivert_all-paid a [] w e p = p
        undivert_all-paid a (v ∷ l) w e p =
            all_then (Left a v l w e p) (Paid t f ms a) (undivert t f ms i v l w) _ (undivert-paid a v l w e p) (λ w' q. undivert_all-paid a l w' q.1 q.0)

        pub done-paid : (a : ℕ) (w : ParallelMoves) → Paid t f ms a w → Paid t f ms a (with_state i Done w)
        done-paid a w p = record { paid = omega (arith, p.paid, news-close n i w.state); counted = p.counted }

        pub close-paid : (a b : ℕ) (w : ParallelMoves) → Paid t f ms a w → a + 8 ≤ b → All (Paid t f ms b) (close t f ms i w)
        unfolding close
        close-paid a b w p h =
            all_then (Paid t f ms b) (Paid t f ms b) (lead t f ms i (with_state i Done w)) _ (lead-paid a b (with_state i Done w) (done-paid a w p) h)
            (λ w' q. undivert_all-paid b (w'.diverted.values i) w' refl q)

        -- to open a move frees its 8
        pub opened : (w : ParallelMoves) → is_new (w.state i) ≡ true → spent t f ms (with_state i Pending w) + 8 ≤ spent t f ms w
        opened w e = omega (arith, news-open n i w.state il e)

      pub visit-paid : (fuel a i : ℕ) (w : ParallelMoves) → i < n → Paid t f ms a w → All (Paid t f ms a) (visit t f ms fuel i w)
      unfolding visit
      visit-paid zero a i w il p = branch (All (Paid t f ms a)) (is_new (w.state i)) _ _ (λ _. tt) (λ _. p)
      visit-paid (suc fuel) a i w il p =
          branch (All (Paid t f ms a)) (is_new (w.state i)) _ _
          (λ e. all_then (Paid t f ms (spent t f ms (with_state i Pending w))) (Paid t f ms a) (each (visit t f ms fuel) (reverse (writers t f ms i)) (with_state i Pending w)) _
          (all-each (Paid t f ms (spent t f ms (with_state i Pending w))) (λ m. m < n) (visit t f ms fuel) (λ m w' ml q. visit-paid fuel (spent t f ms (with_state i Pending w)) m w' ml q)
          (reverse (writers t f ms i)) (every-reverse (λ m. m < n) (writers t f ms i) (writers-low t f ms i)) (with_state i Pending w) (record { paid = omega arith; counted = p.counted }))
          (λ w' q. close-paid i il (spent t f ms (with_state i Pending w)) a w' q (omega (arith, opened i il w e, p.paid))))
          (λ _. p)

      pub first-paid : (a i : ℕ) (w : ParallelMoves) → i < n → Paid t f ms a w → All (Paid t f ms a) (visit_unless_memory t f ms i w)
      unfolding visit_unless_memory
      first-paid a i w il p = branch (All (Paid t f ms a)) (or (is_memory t (source t f ms i)) (is_memory t (dest t f ms i))) _ _ (λ _. p) (λ _. visit-paid n a i w il p)

      pub start-paid : (k : ScratchAllocator) → Paid t f ms (owed k + 8 * n) (start t f ms k)
      unfolding start live sign occurs
      start-paid k = record { paid = omega (arith, sum-zero (λ v. 0) (num_values f) (λ v h. refl), news-all n (λ i. New)); counted = record { counts = λ v. sym (sum-zero (λ m. 0) n (λ m h. refl)); small = λ v h. absurd (omega arith) } }

      moves-few : (k : ScratchAllocator) → All (λ k'. length k'.edits ≤ owed k + 8 * n) (moves t f ms k)
      unfolding moves
      moves-few k =
          all_then P (λ k'. length k'.edits ≤ owed k + 8 * n) (and_then (each (visit_unless_memory t f ms) (indices 0 n) (start t f ms k)) (each (visit t f ms n) (indices 0 n))) _
          (all_then P P (each (visit_unless_memory t f ms) (indices 0 n) (start t f ms k)) _
          (all-each P (λ i. i < n) (visit_unless_memory t f ms) (λ i w. first-paid (owed k + 8 * n) i w) (indices 0 n) below (start t f ms k) (start-paid k))
          (λ w p. all-each P (λ i. i < n) (visit t f ms n) (λ i w. visit-paid n (owed k + 8 * n) i w) (indices 0 n) below w p))
          (λ w p. omega (arith, p.paid, all-owed w.allocator))
        where
          P : ParallelMoves → Type 0
          P = Paid t f ms (owed k + 8 * n)

          below : Every (λ i. i < n) (indices 0 n)
          below = every-index n 0 n (omega arith)

    pub run-few : (p : Patch) (a : Sorted) (c : Cache) → SortedOk t f a → All (λ k. length k.edits ≤ bound a) (run t f p a c)
    unfolding run
    run-few p a c ok =
        all_then (λ k. owed k ≤ length a.remats + 5 * length a.remats_with_scratch) (λ k. length k.edits ≤ bound a) (each (remat_with_scratch t f) a.remats_with_scratch (remats t f a.remats k₀)) _
        (all_map (λ k. owed k ≤ owed (remats t f a.remats k₀) + 5 * length a.remats_with_scratch) (λ k. owed k ≤ length a.remats + 5 * length a.remats_with_scratch)
        (each (remat_with_scratch t f) a.remats_with_scratch (remats t f a.remats k₀)) (λ k h. omega (arith, remats-owed a.remats k₀))
        (each-owed a.remats_with_scratch (every-get_d (RematOk t f false) no_remat a.remats_with_scratch ok.remats_with_scratch) (remats t f a.remats k₀)))
        (λ k h. all_map (λ k'. length k'.edits ≤ owed k + 8 * length a.moves) (λ k'. length k'.edits ≤ bound a) (moves t f a.moves k) (λ k' q. omega arith) (moves-few a.moves ok.moves k))
      where
        k₀ : ScratchAllocator
        k₀ = record { edits = []; available = λ u. has u p.free; evicted = []; cache = c; met = 0 }

-- "the edits number at most 8 × kept moves + 5 × rebuilds with scratch + other rebuilds"
pub bound-ok :
    (t : RegInfo) (f : Function) → target.Accepted t → function.Accepted t f → (p : Patch) (room : ℕ) (c c' : Cache) (es : List Edit) → Ran t f p room c es c'
    → length es ≤ bound (sorted t f p)
bound-ok t f at af p room c c' es r =
    let few : All (λ k. length k.edits ≤ bound (sorted t f p)) (some r.allocator) =
    subst (All (λ k. length k.edits ≤ bound (sorted t f p))) r.ran (run-few t f at (placed t f af) p (sorted t f p) c r.ok) in
    omega (arith, few, ap length r.edits)

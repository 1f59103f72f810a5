-- The rules never look at an emergency slot's number: with other numbers for the slots, and a counter and a limit higher by d, a run is the
-- same but for those numbers.
use Prim.Native.Nat.{ℕ, zero, suc, pred, ◌+◌, ◌<◌, ◌≤◌}
use mathlib.Core.Path.{◌≡◌, refl, sym, ap, subst, ◌∙◌, fun_ext}
use mathlib.Core.Bool.{Bool, true, false}
use mathlib.Core.List.{List, [], ◌∷◌, map, reverse}
use mathlib.Core.Option.{Option, none, some}
use native.Mathlib.Omega.{arith}
use lib.Dec.{eqb, ltb}
use lib.ListN.{length, take, drop}
use borrow.Author.Tests.{ltb-true, ltb-false, lt-ltb, le-ltb}
use Rattle.entity.specs.Logic.{pick, and, or, no, any_in, has, indices}
use Rattle.entity.specs.Place.{Place, reg, slot}
use Rattle.reginfo.specs.RegInfo.{RegInfo, includes_spillslots, class_members, allocation_order, last_in_order, spillslot_size, stack_to_stack_class, top_level_class, is_memory, overlap, bank_for_class}
use Rattle.function.specs.Function.{Function, value_bank, remat_class}
use Rattle.rules.specs.Edit.{Rematerialize, updated, and_then, each, find, filter}
use Rattle.rules.specs.Scratch.{Cache, ScratchAllocator, Evicted, Found, Acquired, acquire_from, release, unevict, unevict_but, overlaps_evicted, unevict_for_reg, make_room, make_available, make_unavailable, usable, meeting, searched_to, slot_scratch, evict_last, reuse, or_scratch, get_scratch_reg, nothing_barred, move_edits, do_move, release_place, with_evicted, push}
use Rattle.rules.specs.Order.{KeptMove, Remat, ParallelMoves, do_remat, remats, remat_with_scratch, source, dest, value, writer_from, writers_of, writers, cycle_move_sources, emit, noted, divert, carried, lead, lost, undivert, undivert_all, close, visit, visit_unless_memory, start, moves, with_state, with_allocator, with_diverted, Pending, Done, is_new, is_pending}
use Rattle.rules.specs.Patch.{Patch, Sorted, run}
use Rattle.rules.specs.Refusals.{with_limit}
use Rattle.rules.proofs.Steps.{Every, every-reverse, every-index}
use Rattle.rules.proofs.Writers.{writers-low}
use Rattle.frame_rules.specs.Renamed.{ren_place, ren_edit}

inside : {A : Type 0} {x y : A} → some x ≡ some y → x ≡ y
inside e = cc

unfoldable pub map_o : {A B : Type 0} → (A → B) → Option A → Option B
map_o g none = none
map_o g (some x) = some (g x)

drop-map : {A B : Type 0} (g : A → B) (n : ℕ) (l : List A) → drop n (map g l) ≡ map g (drop n l)
drop-map g zero l = refl
drop-map g (suc n) [] = refl
drop-map g (suc n) (x ∷ l) = drop-map g n l

take-map : {A B : Type 0} (g : A → B) (n : ℕ) (l : List A) → take n (map g l) ≡ map g (take n l)
take-map g zero l = refl
take-map g (suc n) [] = refl
take-map g (suc n) (x ∷ l) = ap (λ r. g x ∷ r) (take-map g n l)

module _ (t : RegInfo) (f : Function) (ρ : ℕ → ℕ) (m d : ℕ) where
  abbrev pub f' : Function
  f' = with_limit t f (f.limit + d)

  abbrev pub ren_evicted : Evicted → Evicted
  ren_evicted e = record { reg = e.reg; slot = ρ e.slot; size = e.size }

  abbrev pub ren_cache : Cache → Cache
  ren_cache c = record { stacks = λ z. map ρ (c.stacks z); made = c.made + d }

  abbrev pub ren : ScratchAllocator → ScratchAllocator
  ren k = record { edits = map (ren_edit ρ) k.edits; available = k.available; evicted = map ren_evicted k.evicted; cache = ren_cache k.cache; met = k.met }

  abbrev pub ren_found : Found → Found
  ren_found x = record { place = ren_place ρ x.place; position = x.position; scratch = ren x.scratch }

  abbrev pub ren_acquired : Acquired → Acquired
  ren_acquired x = record { slot = ρ x.slot; cache = ren_cache x.cache }

  abbrev pub ren_moves : ParallelMoves → ParallelMoves
  ren_moves w = record { allocator = ren w.allocator; state = w.state; alloc = λ v. ren_place ρ (w.alloc v); scratch = λ v. ren_place ρ (w.scratch v); diverted = w.diverted }

  -- o' is o renamed, and at least m slots are made then
  pub record Like {A : Type 0} (g : A → A) (made : A → ℕ) (o o' : Option A) : Type 0 where
    pub is : o' ≡ map_o g o
    pub up : (x : A) → o ≡ some x → m ≤ made x

  module _
      (later : (k : ℕ) → m ≤ k → ρ (f.slots + k) ≡ f.slots + (k + d))
      (apart : (s r : ℕ) → overlap t (slot s) (reg r) ≡ false)
    where
      abbrev of_cache : Acquired → ℕ
      of_cache x = x.cache.made

      abbrev pub of_keeper : ScratchAllocator → ℕ
      of_keeper k = k.cache.made

      abbrev of_found : Found → ℕ
      of_found x = x.scratch.cache.made

      abbrev of_moves : ParallelMoves → ℕ
      of_moves w = w.allocator.cache.made

      stay : {A : Type 0} (g : A → A) (made : A → ℕ) (x y : A) → m ≤ made x → y ≡ g x → Like g made (some x) (some y)
      unfolding map_o
      stay g made x y h e = record { is = ap some e; up = λ z q. rw (← inside q) h }

      never : {A : Type 0} (g : A → A) (made : A → ℕ) → Like g made none none
      unfolding map_o
      never g made = record { is = refl; up = λ x e. let z : ◌≡◌ {A = ℕ} 0 1 = cc in absurd (omega arith) }

      choose : {A : Type 0} (g : A → A) (made : A → ℕ) (b : Bool) (o o' u u' : Option A) → Like g made o o' → Like g made u u' → Like g made (pick b o u) (pick b o' u')
      choose g made true o o' u u' h k = h
      choose g made false o o' u u' h k = k

      bind : {A B : Type 0} (g : A → A) (ma : A → ℕ) (h : B → B) (mb : B → ℕ) (o o' : Option A) (next next' : A → Option B)
          → Like g ma o o' → ((x : A) → m ≤ ma x → Like h mb (next x) (next' (g x))) → Like h mb (and_then o next) (and_then o' next')
      unfolding and_then map_o
      bind g ma h mb none o' next next' l k = rw l.is (never h mb)
      bind g ma h mb (some x) o' next next' l k = rw l.is (k x (l.up x refl))

      each_like : {A B : Type 0} (P : B → Type 0) (g : A → A) (made : A → ℕ) (step step' : B → A → Option A) → ((x : B) (a : A) → P x → m ≤ made a → Like g made (step x a) (step' x (g a)))
          → (xs : List B) → Every P xs → (a : A) → m ≤ made a → Like g made (each step xs a) (each step' xs (g a))
      unfolding each
      each_like P g made step step' h [] e a q = stay g made a (g a) q refl
      each_like P g made step step' h (x ∷ xs) e a q = bind g made g made _ _ _ _ (h x a e.0 q) (each_like P g made step step' h xs e.1)

      updated-map : (z : ℕ) (l : List ℕ) (st : ℕ → List ℕ) → updated z (map ρ l) (λ y. map ρ (st y)) ≡ (λ y. map ρ (updated z l st y))
      unfolding updated
      updated-map z l st = fun_ext (λ y. go (eqb y z) (st y))
        where
          go : (b : Bool) (x : List ℕ) → pick b (map ρ l) (map ρ x) ≡ map ρ (pick b l x)
          go true x = refl
          go false x = refl

      updated-place : (v : ℕ) (p : Place) (h : ℕ → Place) → updated v (ren_place ρ p) (λ y. ren_place ρ (h y)) ≡ (λ y. ren_place ρ (updated v p h y))
      unfolding updated
      updated-place v p h = fun_ext (λ y. go (eqb y v) (h y))
        where
          go : (b : Bool) (x : Place) → pick b (ren_place ρ p) (ren_place ρ x) ≡ ren_place ρ (pick b p x)
          go true x = refl
          go false x = refl

      acquire-like : (z : ℕ) (c : Cache) (xs : List ℕ) → m ≤ c.made → Like ren_acquired of_cache (acquire_from t f xs z c) (acquire_from t f' (map ρ xs) z (ren_cache c))
      unfolding acquire_from
      acquire-like z c (s ∷ xs) h = stay ren_acquired of_cache _ _ h (rw (updated-map z xs c.stacks) refl)
      acquire-like z c [] h = go (ltb c.made f.limit) refl
        where
          go : (b : Bool) → ltb c.made f.limit ≡ b
              → Like ren_acquired of_cache (pick b (some (record { slot = f.slots + c.made; cache = record { stacks = c.stacks; made = c.made + 1 } })) none)
              (pick (ltb (c.made + d) (f.limit + d)) (some (record { slot = f.slots + (c.made + d); cache = record { stacks = λ y. map ρ (c.stacks y); made = c.made + d + 1 } })) none)
          go true e =
              let w : c.made < f.limit = ltb-true _ _ e in
              let q : c.made + d + 1 ≡ c.made + 1 + d = omega arith in
              rw (lt-ltb (c.made + d) (f.limit + d) (omega arith)) (stay ren_acquired of_cache _ _ (omega arith) (rw (later c.made h, q) refl))
          go false e =
              let w : f.limit ≤ c.made = ltb-false _ _ e in
              rw (le-ltb (c.made + d) (f.limit + d) (omega arith)) (never ren_acquired of_cache)

      release-like : (z s : ℕ) (c : Cache) → release t f' z (ρ s) (ren_cache c) ≡ ren_cache (release t f z s c)
      release-like z s c = rw (updated-map z (s ∷ c.stacks z) c.stacks) refl

      unevict-like : (es : List Evicted) (k : ScratchAllocator) → unevict t f' (map ren_evicted es) (ren k) ≡ ren (unevict t f es k)
      unfolding unevict
      unevict-like [] k = refl
      unevict-like (e ∷ es) k = rw (unevict-like es k, release-like e.size e.slot (unevict t f es k).cache) refl

      filter-like : (p p' : Evicted → Bool) → ((e : Evicted) → p' (ren_evicted e) ≡ p e) → (es : List Evicted) → filter p' (map ren_evicted es) ≡ map ren_evicted (filter p es)
      unfolding filter
      filter-like p p' h [] = refl
      filter-like p p' h (e ∷ es) = rw (h e, filter-like p p' h es) (go (p e))
        where
          go : (b : Bool) → pick b (ren_evicted e ∷ map ren_evicted (filter p es)) (map ren_evicted (filter p es)) ≡ map ren_evicted (pick b (e ∷ filter p es) (filter p es))
          go true = refl
          go false = refl

      over : (p : Place) (e : Evicted) → overlaps_evicted t f' (ren_place ρ p) (ren_evicted e) ≡ overlaps_evicted t f p e
      over (reg r) e = refl
      over (slot s) e = apart (ρ s) e.reg ∙ sym (apart s e.reg)

      for-like : (p : Place) (k : ScratchAllocator) → unevict_for_reg t f' (ren_place ρ p) (ren k) ≡ ren (unevict_for_reg t f p k)
      unfolding unevict_for_reg
      for-like p k =
          rw (
            filter-like (overlaps_evicted t f p) (overlaps_evicted t f' (ren_place ρ p)) (over p) k.evicted,
            filter-like (λ e. no (overlaps_evicted t f p e)) (λ e. no (overlaps_evicted t f' (ren_place ρ p) e)) (λ e. ap no (over p e)) k.evicted,
          )
          (unevict-like (filter (overlaps_evicted t f p) k.evicted) (with_evicted (filter (λ e. no (overlaps_evicted t f p e)) k.evicted) k))

      unevict-made : (es : List Evicted) (k : ScratchAllocator) → of_keeper (unevict t f es k) ≡ of_keeper k
      unfolding unevict
      unevict-made [] k = refl
      unevict-made (e ∷ es) k = unevict-made es k

      for-made : (p : Place) (k : ScratchAllocator) → m ≤ of_keeper k → m ≤ of_keeper (unevict_for_reg t f p k)
      unfolding unevict_for_reg
      for-made p k h = rw (unevict-made (filter (overlaps_evicted t f p) k.evicted) (with_evicted (filter (λ e. no (overlaps_evicted t f p e)) k.evicted) k)) h

      slot-like : (n b : ℕ) (k : ScratchAllocator) → m ≤ of_keeper k → Like ren_found of_found (slot_scratch t f n b k) (slot_scratch t f' n b (ren k))
      unfolding slot_scratch
      slot-like n b k h = bind ren_acquired of_cache ren_found of_found _ _ _ _ (acquire-like (spillslot_size t b) k.cache (k.cache.stacks (spillslot_size t b)) h) (λ a q. stay ren_found of_found _ _ q refl)

      evict-like : (n b c : ℕ) (k : ScratchAllocator) → m ≤ of_keeper k → Like ren_found of_found (evict_last t f n b c k) (evict_last t f' n b c (ren k))
      unfolding evict_last
      evict-like n b c k h = bind ren_acquired of_cache ren_found of_found _ _ _ _ (acquire-like (spillslot_size t b) k.cache (k.cache.stacks (spillslot_size t b)) h) (λ a q. stay ren_found of_found _ _ q refl)

      room-like : (r : ℕ) (k : ScratchAllocator) → make_room t f' r (ren k) ≡ ren (make_room t f r k)
      unfolding make_room unevict_but
      room-like r k =
          let n : ℕ = pred f.kept in
          let k' : ScratchAllocator = unevict_for_reg t f (reg r) k in
          rw (for-like (reg r) k, drop-map ren_evicted n k'.evicted, take-map ren_evicted n k'.evicted) (unevict-like (drop n k'.evicted) (with_evicted (take n k'.evicted) k'))

      room-made : (r : ℕ) (k : ScratchAllocator) → m ≤ of_keeper k → m ≤ of_keeper (make_room t f r k)
      unfolding make_room unevict_but
      room-made r k h =
          let k' : ScratchAllocator = unevict_for_reg t f (reg r) k in
          rw (unevict-made (drop (pred f.kept) k'.evicted) (with_evicted (take (pred f.kept) k'.evicted) k')) (for-made (reg r) k h)

      reuse-like : (es : List Evicted) (n b c : ℕ) (k : ScratchAllocator) → m ≤ of_keeper k → Like ren_found of_found (reuse t f es n b c k) (reuse t f' (map ren_evicted es) n b c (ren k))
      unfolding reuse
      reuse-like [] n b c k h = rw (room-like (last_in_order t c) k) (evict-like n b c (make_room t f (last_in_order t c) k) (room-made (last_in_order t c) k h))
      reuse-like (e ∷ es) n b c k h = choose ren_found of_found (has e.reg (class_members t c)) _ _ _ _ (stay ren_found of_found _ _ h refl) (reuse-like es n b c k h)

      or-like : (o : Option ℕ) (n b c : ℕ) (k : ScratchAllocator) → m ≤ of_keeper k → Like ren_found of_found (or_scratch t f o n b c k) (or_scratch t f' o n b c (ren k))
      unfolding or_scratch
      or-like (some r) n b c k h = stay ren_found of_found _ _ h refl
      or-like none n b c k h = choose ren_found of_found (includes_spillslots t c) _ _ _ _ (slot-like n b k h) (reuse-like k.evicted n b c k h)

      search-like : (b c : ℕ) (barred : ℕ → Bool) (k : ScratchAllocator) → m ≤ of_keeper k → Like ren_found of_found (get_scratch_reg t f b c barred k) (get_scratch_reg t f' b c barred (ren k))
      unfolding get_scratch_reg
      search-like b c barred k h = or-like (find (usable t f barred k) (allocation_order t c)) (searched_to t f c barred k) b c (meeting (searched_to t f c barred k) k) h

      memory-like : (p : Place) → is_memory t (ren_place ρ p) ≡ is_memory t p
      memory-like (reg r) = refl
      memory-like (slot s) = refl

      edits-like : (b : ℕ) (to from : Place) (v : ℕ) (k : ScratchAllocator) → m ≤ of_keeper k → Like ren of_keeper (move_edits t f b to from v k) (move_edits t f' b (ren_place ρ to) (ren_place ρ from) v (ren k))
      unfolding move_edits
      edits-like b to from v k h =
          rw (memory-like to, memory-like from)
          (choose ren of_keeper (and (is_memory t to) (is_memory t from)) _ _ _ _
          (bind ren_found of_found ren of_keeper _ _ _ _ (search-like b (stack_to_stack_class t b) (nothing_barred t f) k h) (λ x q. stay ren of_keeper _ _ q refl))
          (stay ren of_keeper _ _ h refl))

      available-like : (p : Place) (k : ScratchAllocator) → make_available t f' (ren_place ρ p) (ren k) ≡ ren (make_available t f p k)
      available-like (reg r) k = refl
      available-like (slot s) k = refl

      unavailable-like : (p : Place) (k : ScratchAllocator) → make_unavailable t f' (ren_place ρ p) (ren k) ≡ ren (make_unavailable t f p k)
      unavailable-like (reg r) k = refl
      unavailable-like (slot s) k = refl

      move-like : (b : ℕ) (to src : Place) (v : ℕ) (k : ScratchAllocator) → m ≤ of_keeper k → Like ren of_keeper (do_move t f b to src v k) (do_move t f' b (ren_place ρ to) (ren_place ρ src) v (ren k))
      unfolding do_move
      move-like b to src v k h =
          rw (for-like src k, for-like to (unevict_for_reg t f src k))
          (bind ren of_keeper ren of_keeper _ _ _ _
          (edits-like b to src v (unevict_for_reg t f to (unevict_for_reg t f src k)) (for-made to (unevict_for_reg t f src k) (for-made src k h)))
          (λ k' q. stay ren of_keeper _ _ q (ap (λ y. make_unavailable t f' (ren_place ρ src) y) (available-like to k') ∙ unavailable-like src (make_available t f to k'))))

      put-like : (z : ℕ) (p : Place) (k : ScratchAllocator) → release_place t f' z (ren_place ρ p) (ren k) ≡ ren (release_place t f z p k)
      put-like z (reg r) k = refl
      put-like z (slot s) k = rw (release-like z s k.cache) refl

      put-made : (z : ℕ) (p : Place) (k : ScratchAllocator) → m ≤ of_keeper k → m ≤ of_keeper (release_place t f z p k)
      put-made z (reg r) k h = h
      put-made z (slot s) k h = h

      -- a place of the patch, whose number stays
      unfoldable pub Stays : Place → Type 0
      Stays p = ren_place ρ p ≡ p

      remat-like : (r : Remat) → Stays r.dest → (k : ScratchAllocator) → m ≤ of_keeper k → Like ren of_keeper (remat_with_scratch t f r k) (remat_with_scratch t f' r (ren k))
      unfolding remat_with_scratch remat_class Stays
      remat-like r s k h = subst (λ (p : Place). Like ren of_keeper (remat_with_scratch t f r k) (remat_with_scratch t f' (record { dest = p; value = r.value }) (ren k))) s go
        where
          b : ℕ
          b = bank_for_class t (remat_class f r.value)

          go : Like ren of_keeper (remat_with_scratch t f r k) (remat_with_scratch t f' (record { dest = ren_place ρ r.dest; value = r.value }) (ren k))
          go =
              rw (for-like r.dest k)
              (bind ren_found of_found ren of_keeper _ _ _ _ (search-like b (remat_class f r.value) (nothing_barred t f) (unevict_for_reg t f r.dest k) (for-made r.dest k h))
              (λ x q. bind ren of_keeper ren of_keeper _ _ _ _ (edits-like b r.dest x.place r.value x.scratch q)
              (λ k' g. stay ren of_keeper _ _ (put-made (spillslot_size t b) x.place (push (Rematerialize x.place r.value) k') g)
              (ap (λ y. make_available t f' (ren_place ρ r.dest) y) (put-like (spillslot_size t b) x.place (push (Rematerialize x.place r.value) k')) ∙ available-like r.dest (release_place t f (spillslot_size t b) x.place (push (Rematerialize x.place r.value) k'))))))

      remats-like : (rs : List Remat) → Every (λ r. Stays r.dest) rs → (k : ScratchAllocator) → remats t f' rs (ren k) ≡ ren (remats t f rs k)
      unfolding remats Stays
      remats-like [] s k = refl
      remats-like (r ∷ rs) s k = ap (remats t f' rs) (ap (λ p. make_available t f' p (push (Rematerialize p r.value) (ren k))) (sym s.0) ∙ available-like r.dest (push (Rematerialize r.dest r.value) k)) ∙ remats-like rs s.1 (do_remat t f r k)

      remats-made : (rs : List Remat) (k : ScratchAllocator) → of_keeper (remats t f rs k) ≡ of_keeper k
      unfolding remats
      remats-made [] k = refl
      remats-made (r ∷ rs) k = remats-made rs (do_remat t f r k)

      -- the kept moves
      module _ (ms : List KeptMove) (src-stays : (i : ℕ) → i < length ms → Stays (source t f ms i)) (dst-stays : (i : ℕ) → i < length ms → Stays (dest t f ms i)) where
        emit-like : (i : ℕ) → i < length ms → (from : Place) (w : ParallelMoves) → m ≤ of_moves w → Like ren_moves of_moves (emit t f ms i from w) (emit t f' ms i (ren_place ρ from) (ren_moves w))
        unfolding value_bank Stays
        emit-like i l from w h =
            bind ren of_keeper ren_moves of_moves _ _ _ _
            (subst (λ p. Like ren of_keeper (do_move t f (value_bank f (value t f ms i)) (dest t f ms i) from (value t f ms i) w.allocator) (do_move t f' (value_bank f (value t f ms i)) p (ren_place ρ from) (value t f ms i) (ren w.allocator))) (dst-stays i l)
            (move-like (value_bank f (value t f ms i)) (dest t f ms i) from (value t f ms i) w.allocator h))
            (λ k q. stay ren_moves of_moves _ _ q refl)

        noted-like : (i : ℕ) → i < length ms → (x : Found) (w : ParallelMoves) → noted t f' ms i (ren_found x) (ren_moves w) ≡ ren_moves (noted t f ms i x w)
        unfolding Stays
        noted-like i l x w =
            rw (unavailable-like x.place x.scratch, updated-place (value t f ms i) x.place w.scratch)
            (rw (← updated-place (value t f ms i) (source t f ms i) w.alloc, src-stays i l) refl)

        divert-like : (i : ℕ) → i < length ms → (w : ParallelMoves) → m ≤ of_moves w → Like ren_moves of_moves (divert t f ms i w) (divert t f' ms i (ren_moves w))
        unfolding divert value_bank cycle_move_sources
        divert-like i l w h =
            bind ren_found of_found ren_moves of_moves _ _ _ _ (search-like (value_bank f (value t f ms i)) (top_level_class t (value_bank f (value t f ms i))) (cycle_move_sources t f ms) w.allocator h)
            (λ x q. subst (λ y. Like ren_moves of_moves (emit t f ms i x.place (noted t f ms i x w)) (emit t f' ms i (ren_place ρ x.place) y)) (sym (noted-like i l x w)) (emit-like i l x.place (noted t f ms i x w) q))

        lead-like : (i : ℕ) → i < length ms → (w : ParallelMoves) → m ≤ of_moves w → Like ren_moves of_moves (lead t f ms i w) (lead t f' ms i (ren_moves w))
        unfolding lead writers writers_of writer_from Stays
        lead-like i l w h =
            choose ren_moves of_moves (any_in (λ n. is_pending (w.state n)) (writers t f ms i)) _ _ _ _
            (choose ren_moves of_moves (eqb (w.diverted.ref_count (value t f ms i)) 0) _ _ _ _ (divert-like i l (carried t f ms i w) h) (emit-like i l (w.scratch (value t f ms i)) (carried t f ms i w) h))
            (subst (λ p. Like ren_moves of_moves (emit t f ms i (source t f ms i) w) (emit t f' ms i p (ren_moves w))) (src-stays i l) (emit-like i l (source t f ms i) w h))

        undivert-like : (i v : ℕ) (rest : List ℕ) (w : ParallelMoves) → m ≤ of_moves w → Like ren_moves of_moves (undivert t f ms i v rest w) (undivert t f' ms i v rest (ren_moves w))
        unfolding undivert value_bank
        undivert-like i v rest w h =
            choose ren_moves of_moves (eqb ((lost t f ms i v rest w.diverted).ref_count v) 0) _ _ _ _
            (bind ren of_keeper ren_moves of_moves _ _ _ _ (move-like (value_bank f v) (w.scratch v) (w.alloc v) v w.allocator h)
            (λ k q. stay ren_moves of_moves _ _ (put-made (spillslot_size t (value_bank f v)) (w.scratch v) k q)
            (ap (λ y. with_diverted (lost t f ms i v rest w.diverted) (with_allocator y (ren_moves w))) (put-like (spillslot_size t (value_bank f v)) (w.scratch v) k))))
            (stay ren_moves of_moves _ _ h refl)

        undivert_all-like : (i : ℕ) (vs : List ℕ) (w : ParallelMoves) → m ≤ of_moves w → Like ren_moves of_moves (undivert_all t f ms i vs w) (undivert_all t f' ms i vs (ren_moves w))
        unfolding undivert_all
        undivert_all-like i [] w h = stay ren_moves of_moves _ _ h refl
        undivert_all-like i (v ∷ vs) w h = bind ren_moves of_moves ren_moves of_moves _ _ _ _ (undivert-like i v vs w h) (undivert_all-like i vs)

        close-like : (i : ℕ) → i < length ms → (w : ParallelMoves) → m ≤ of_moves w → Like ren_moves of_moves (close t f ms i w) (close t f' ms i (ren_moves w))
        unfolding close
        close-like i l w h = bind ren_moves of_moves ren_moves of_moves _ _ _ _ (lead-like i l (with_state i Done w) h) (λ w' q. undivert_all-like i (w'.diverted.values i) w' q)

        visit-like : (n i : ℕ) → i < length ms → (w : ParallelMoves) → m ≤ of_moves w → Like ren_moves of_moves (visit t f ms n i w) (visit t f' ms n i (ren_moves w))
        unfolding visit writers writers_of writer_from
        visit-like zero i l w h = choose ren_moves of_moves (is_new (w.state i)) _ _ _ _ (never ren_moves of_moves) (stay ren_moves of_moves _ _ h refl)
        visit-like (suc n) i l w h =
            choose ren_moves of_moves (is_new (w.state i)) _ _ _ _
            (bind ren_moves of_moves ren_moves of_moves _ _ _ _ (each_like (λ j. j < length ms) ren_moves of_moves (visit t f ms n) (visit t f' ms n) (λ j a b q. visit-like n j b a q) (reverse (writers t f ms i)) (every-reverse (λ j. j < length ms) (writers t f ms i) (writers-low t f ms i)) (with_state i Pending w) h) (close-like i l))
            (stay ren_moves of_moves _ _ h refl)

        first-like : (i : ℕ) → i < length ms → (w : ParallelMoves) → m ≤ of_moves w → Like ren_moves of_moves (visit_unless_memory t f ms i w) (visit_unless_memory t f' ms i (ren_moves w))
        unfolding visit_unless_memory
        first-like i l w h = choose ren_moves of_moves (or (is_memory t (source t f ms i)) (is_memory t (dest t f ms i))) _ _ _ _ (stay ren_moves of_moves _ _ h refl) (visit-like (length ms) i l w h)

        moves-like : (k : ScratchAllocator) → m ≤ of_keeper k → Like ren of_keeper (moves t f ms k) (moves t f' ms (ren k))
        unfolding moves start
        moves-like k h =
            bind ren_moves of_moves ren of_keeper _ _ _ _
            (bind ren_moves of_moves ren_moves of_moves _ _ _ _ (each_like (λ j. j < length ms) ren_moves of_moves (visit_unless_memory t f ms) (visit_unless_memory t f' ms) (λ j a b q. first-like j b a q) (indices 0 (length ms)) (every-index (length ms) 0 (length ms) (omega arith)) (start t f ms k) h)
            (each_like (λ j. j < length ms) ren_moves of_moves (visit t f ms (length ms)) (visit t f' ms (length ms)) (λ j a b q. visit-like (length ms) j b a q) (indices 0 (length ms)) (every-index (length ms) 0 (length ms) (omega arith))))
            (λ w q. stay ren of_keeper _ _ (rw (unevict-made w.allocator.evicted (with_evicted [] w.allocator)) q) (unevict-like w.allocator.evicted (with_evicted [] w.allocator)))

      pub run-like : (p : Patch) (a : Sorted) → ((i : ℕ) → i < length a.moves → Stays (source t f a.moves i)) → ((i : ℕ) → i < length a.moves → Stays (dest t f a.moves i))
          → Every (λ r. Stays r.dest) a.remats → Every (λ r. Stays r.dest) a.remats_with_scratch
          → (c : Cache) → m ≤ c.made → Like ren of_keeper (run t f p a c) (run t f' p a (ren_cache c))
      unfolding run
      run-like p a ss ds rs ws c h =
          let k : ScratchAllocator = record { edits = []; available = λ u. has u p.free; evicted = []; cache = c; met = 0 } in
          bind ren of_keeper ren of_keeper _ _ _ _
          (rw (remats-like a.remats rs k) (each_like (λ r. Stays r.dest) ren of_keeper (remat_with_scratch t f) (remat_with_scratch t f') (λ r k s q. remat-like r s k q) a.remats_with_scratch ws (remats t f a.remats k) (rw (remats-made a.remats k) h)))
          (moves-like a.moves ss ds)

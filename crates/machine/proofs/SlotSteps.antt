-- Each step of the keeper counts every slot once: a slot taken or given back, an eviction brought back, a search, a move, a rebuild.
use Prim.Native.Nat.{ℕ, pred, ◌+◌, ◌<◌, ◌≤◌}
use mathlib.Core.Path.{◌≡◌, refl, sym, ap, subst, ◌∙◌}
use mathlib.Core.Bool.{Bool, true, false, false≢true}
use mathlib.Core.List.{List, [], ◌∷◌}
use mathlib.Core.Option.{Option, none, some}
use mathlib.Core.Logic.{⊎_elim}
use native.Mathlib.Omega.{arith}
use lib.Dec.{ltb}
use lib.ListN.{take, drop}
use Rattle.entity.specs.Logic.{and, no, has}
use Rattle.entity.specs.Place.{Place, reg, slot}
use Rattle.reginfo.specs.RegInfo.{RegInfo, num_banks, bank_for_class, allocation_order, class_members, includes_spillslots, last_in_order, is_memory, spillslot_size, stack_to_stack_class}
use Rattle.reginfo.specs.Refused as target
use Rattle.reginfo.proofs.Accepted.{stack-slots}
use Rattle.function.specs.Function.{Function, remat_class}
use Rattle.rules.specs.Edit.{Rematerialize, find, filter}
use Rattle.rules.specs.Scratch.{Cache, Evicted, ScratchAllocator, Acquired, push, with_evicted, Found, unevict, unevict_all, unevict_but, overlaps_evicted, unevict_for_reg, make_room, acquire_from, acquire, release, release_place, usable, slot_scratch, evict_last, reuse, or_scratch, get_scratch_reg, nothing_barred, move_edits, do_move, meeting, searched_to}
use Rattle.rules.specs.Order.{Remat, remats, do_remat, remat_with_scratch}
use Rattle.rules.specs.Sorted.{RematOk}
use Rattle.rules.proofs.Parts.{Parts, all-parts, filter_parts, drop-parts}
use Rattle.rules.proofs.Steps.{All, all_then, branch, same?, updated-at}
use Rattle.machine.specs.Paid.{occurs}
use Rattle.machine.proofs.Banked.{Banked}
use Rattle.machine.proofs.SlotCounts.{one, one-here, one-other, one-away, one-top, holds, waits, waits-parts, Count, stacked}

module _ (t : RegInfo) (f : Function) (c₀ : Cache) where
  -- each slot is counted once: an old one as at the start, a new one somewhere, and no other
  pub record Good (count : Count) (made : ℕ) : Type 0 where
    pub grows : c₀.made ≤ made
    pub old : (s z : ℕ) → s < f.slots + c₀.made → count s z ≡ stacked c₀ s z
    pub fresh : (s : ℕ) → f.slots + c₀.made ≤ s → s < f.slots + made → (z : ℕ) × (count s z ≡ 1) × ((y : ℕ) → (y ≡ z → ⊥) → count s y ≡ 0)
    pub none : (s z : ℕ) → f.slots + made ≤ s → count s z ≡ 0

  pub good-cong : (a b : Count) (m : ℕ) → ((s z : ℕ) → b s z ≡ a s z) → Good a m → Good b m
  good-cong a b m e g =
      record {
        grows = g.grows;
        old = λ s z h. e s z ∙ g.old s z h;
        fresh = λ s h k. let q = g.fresh s h k in (q.0, e s q.0 ∙ q.1, λ y d. e s y ∙ q.2 y d);
        none = λ s z h. e s z ∙ g.none s z h;
      }

  good-make : (a : Count) (m z : ℕ) → Good a m → Good (λ s y. one (f.slots + m) z s y + a s y) (m + 1)
  good-make a m z g =
      record {
        grows = omega (arith, g.grows);
        old = λ s y h. omega (arith, one-other (f.slots + m) z s y (λ e. omega (arith, g.grows)), g.old s y h);
        fresh = λ s h k.
            ⊎_elim
            (λ e. (
              z,
              omega (arith, one-here (f.slots + m) z s z e refl, g.none s z (omega arith)),
              λ y d. omega (arith, one-away (f.slots + m) z s y d, g.none s y (omega arith)),
            ))
            (λ d. let q = g.fresh s h (omega arith) in (
              q.0,
              omega (arith, one-other (f.slots + m) z s q.0 d, q.1),
              λ y x. omega (arith, one-other (f.slots + m) z s y d, q.2 y x),
            ))
            (same? s (f.slots + m));
        none = λ s y h. omega (arith, one-other (f.slots + m) z s y (λ e. omega arith), g.none s y (omega arith));
      }

  -- a slot taken is counted as taken
  Taken : ℕ → Count → Acquired → Type 0
  Taken z extra a = Good (λ s y. stacked a.cache s y + (one a.slot z s y + extra s y)) a.cache.made

  acquire-good : (z : ℕ) (c : Cache) (extra : Count) → Good (λ s y. stacked c s y + extra s y) c.made → All (Taken z extra) (acquire t f z c)
  unfolding acquire_from Taken
  acquire-good z c extra g = go (c.stacks z) refl
    where
      go : (l : List ℕ) → c.stacks z ≡ l → All (Taken z extra) (acquire_from t f l z c)
      go [] e =
          branch (All (Taken z extra)) (ltb c.made f.limit) _ _
          (λ _. good-cong (λ s y. one (f.slots + c.made) z s y + (stacked c s y + extra s y)) _ (c.made + 1) (λ s y. omega arith) (good-make _ c.made z g)) (λ _. tt)
      go (x ∷ l) e =
          good-cong (λ s y. stacked c s y + extra s y) _ c.made
          (λ s y. updated-at (λ k. occurs s k + (one x z s y + extra s y) ≡ stacked c s y + extra s y) z l c.stacks y
          (λ q. omega (arith, one-top x z s y l q, ap (occurs s) e, ap (λ j. occurs s (c.stacks j)) q))
          (λ d. omega (arith, one-away x z s y d))) g

  release-good : (z x : ℕ) (c : Cache) (extra : Count) → Good (λ s y. stacked c s y + (one x z s y + extra s y)) c.made → Good (λ s y. stacked (release t f z x c) s y + extra s y) c.made
  release-good z x c extra g =
      good-cong (λ s y. stacked c s y + (one x z s y + extra s y)) _ c.made
      (λ s y. updated-at (λ k. occurs s k + extra s y ≡ stacked c s y + (one x z s y + extra s y)) z (x ∷ c.stacks z) c.stacks y
      (λ q. omega (arith, one-top x z s y (c.stacks z) q, ap (λ j. occurs s (c.stacks j)) q))
      (λ d. omega (arith, one-away x z s y d))) g

  -- the keeper, beside what is held elsewhere
  unfoldable pub Kept : Count → ScratchAllocator → Type 0
  Kept extra k = Good (λ s z. stacked k.cache s z + (waits k.evicted s z + extra s z)) k.cache.made

  pub kept-cong : (a b : Count) (k : ScratchAllocator) → ((s z : ℕ) → b s z ≡ a s z) → Kept a k → Kept b k
  unfolding Kept
  kept-cong a b k e g = good-cong _ _ k.cache.made (λ s z. omega (arith, e s z)) g

  unevict-good : (l : List Evicted) (k : ScratchAllocator) (extra : Count)
      → Good (λ s z. stacked k.cache s z + (waits l s z + (waits k.evicted s z + extra s z))) k.cache.made → Kept extra (unevict t f l k)
  unfolding unevict waits Kept
  unevict-good [] k extra g = good-cong _ _ k.cache.made (λ s z. omega arith) g
  unevict-good (e ∷ l) k extra g =
      release-good e.size e.slot (unevict t f l k).cache (λ s z. waits (unevict t f l k).evicted s z + extra s z)
      (good-cong (λ s z. stacked (unevict t f l k).cache s z + (waits (unevict t f l k).evicted s z + (one e.slot e.size s z + extra s z))) _ (unevict t f l k).cache.made (λ s z. omega arith)
      (unevict-good l k (λ s z. one e.slot e.size s z + extra s z) (good-cong _ _ k.cache.made (λ s z. omega arith) g)))

  part-good : (k : ScratchAllocator) (es rest : List Evicted) (extra : Count) → Parts es rest k.evicted → Kept extra k → Kept extra (unevict t f es (with_evicted rest k))
  unfolding Kept
  part-good k es rest extra h g =
      unevict-good es (with_evicted rest k) extra
      (good-cong (λ s z. stacked k.cache s z + (waits k.evicted s z + extra s z)) _ k.cache.made (λ s z. omega (arith, waits-parts es rest k.evicted h s z)) g)

  pub all-good : (k : ScratchAllocator) (extra : Count) → Kept extra k → Kept extra (unevict_all t f k)
  all-good k extra g = part-good k k.evicted [] extra (all-parts k.evicted) g

  some_good : (p : Place) (k : ScratchAllocator) (extra : Count) → Kept extra k → Kept extra (unevict_for_reg t f p k)
  unfolding unevict_for_reg
  some_good p k extra g =
      part-good k (filter (overlaps_evicted t f p) k.evicted) (filter (λ e. no (overlaps_evicted t f p e)) k.evicted) extra (filter_parts (overlaps_evicted t f p) k.evicted) g

  room-good : (r : ℕ) (k : ScratchAllocator) (extra : Count) → Kept extra k → Kept extra (make_room t f r k)
  unfolding make_room unevict_but
  room-good r k extra g =
      let k' = unevict_for_reg t f (reg r) k in
      part-good k' (drop (pred f.kept) k'.evicted) (take (pred f.kept) k'.evicted) extra (drop-parts (pred f.kept) k'.evicted) (some_good (reg r) k extra g)

  pub place-good : (z : ℕ) (p : Place) (k : ScratchAllocator) (extra : Count) → Kept (λ s y. holds p z s y + extra s y) k → Kept extra (release_place t f z p k)
  unfolding Kept holds
  place-good z (reg r) k extra g = kept-cong (λ s y. 0 + extra s y) extra k (λ s y. omega arith) g
  place-good z (slot x) k extra g =
      release-good z x k.cache (λ s y. waits k.evicted s y + extra s y)
      (good-cong (λ s y. stacked k.cache s y + (waits k.evicted s y + (one x z s y + extra s y))) _ k.cache.made (λ s y. omega arith) g)

  -- a place found is counted as held; of a class without slots it is no slot
  pub record Search (b c : ℕ) (extra : Count) (x : Found) : Type 0 where
    pub good : Kept (λ s z. holds x.place (spillslot_size t b) s z + extra s z) x.scratch
    pub plain : includes_spillslots t c ≡ false → (s z : ℕ) → holds x.place (spillslot_size t b) s z ≡ 0

  module _ (b c : ℕ) (extra : Count) where
    reg-found : (r n : ℕ) (k : ScratchAllocator) → Kept extra k → Search b c extra (record { place = reg r; position = n; scratch = k })
    unfolding Kept holds
    reg-found r n k g = record { good = kept-cong extra (λ s z. 0 + extra s z) k (λ s z. omega arith) g; plain = λ _ s z. refl }

    slot-good : (n : ℕ) (k : ScratchAllocator) → includes_spillslots t c ≡ true → Kept extra k → All (Search b c extra) (slot_scratch t f n b k)
    unfolding slot_scratch Kept holds Taken
    slot-good n k i g =
        all_then (Taken (spillslot_size t b) (λ s z. waits k.evicted s z + extra s z)) (Search b c extra) (acquire t f (spillslot_size t b) k.cache) _
        (acquire-good (spillslot_size t b) k.cache (λ s z. waits k.evicted s z + extra s z) g)
        (λ a q. record { good = good-cong _ _ a.cache.made (λ s z. omega arith) q; plain = λ e. absurd (false≢true (sym e ∙ i)) })

    evict-good : (n : ℕ) (k : ScratchAllocator) → Kept extra k → All (Search b c extra) (evict_last t f n b c k)
    unfolding evict_last Kept holds Taken waits
    evict-good n k g =
        all_then (Taken (spillslot_size t b) (λ s z. waits k.evicted s z + extra s z)) (Search b c extra) (acquire t f (spillslot_size t b) k.cache) _
        (acquire-good (spillslot_size t b) k.cache (λ s z. waits k.evicted s z + extra s z) g)
        (λ a q. record { good = good-cong _ _ a.cache.made (λ s z. omega arith) q; plain = λ _ s z. refl })

    reuse-good : (l : List Evicted) (n : ℕ) (k : ScratchAllocator) → Kept extra k → All (Search b c extra) (reuse t f l n b c k)
    unfolding reuse
    reuse-good [] n k g = evict-good n (make_room t f (last_in_order t c) k) (room-good (last_in_order t c) k extra g)
    reuse-good (e ∷ l) n k g = branch (All (Search b c extra)) (has e.reg (class_members t c)) _ _ (λ _. reg-found e.reg n k g) (λ _. reuse-good l n k g)

    found-good : (o : Option ℕ) (n : ℕ) (k : ScratchAllocator) → Kept extra k → All (Search b c extra) (or_scratch t f o n b c k)
    unfolding or_scratch
    found-good (some r) n k g = reg-found r n k g
    found-good none n k g = branch (All (Search b c extra)) (includes_spillslots t c) _ _ (λ i. slot-good n k i g) (λ _. reuse-good k.evicted n k g)

    pub search-good : (barred : ℕ → Bool) (k : ScratchAllocator) → Kept extra k → All (Search b c extra) (get_scratch_reg t f b c barred k)
    unfolding get_scratch_reg Kept
    search-good barred k g = found-good (find (usable t f barred k) (allocation_order t c)) (searched_to t f c barred k) (meeting (searched_to t f c barred k) k) g

  pub remats-good : (l : List Remat) (k : ScratchAllocator) (extra : Count) → Kept extra k → Kept extra (remats t f l k)
  unfolding remats Kept
  remats-good [] k extra g = g
  remats-good (r ∷ l) k extra g = remats-good l (do_remat t f r k) extra g

  module _ (at : target.Accepted t) (af : Banked t f) where
    module _ (b : ℕ) (bl : b < num_banks t) (extra : Count) where
      edits-good : (to from : Place) (v : ℕ) (k : ScratchAllocator) → Kept extra k → All (Kept extra) (move_edits t f b to from v k)
      unfolding move_edits Kept
      edits-good to from v k g =
          branch (All (Kept extra)) (and (is_memory t to) (is_memory t from)) _ _
          (λ _. all_then (Search b (stack_to_stack_class t b) extra) (Kept extra) (get_scratch_reg t f b (stack_to_stack_class t b) (nothing_barred t f) k) _
          (search-good b (stack_to_stack_class t b) extra (nothing_barred t f) k g)
          (λ x q. good-cong (λ s z. stacked x.scratch.cache s z + (waits x.scratch.evicted s z + (holds x.place (spillslot_size t b) s z + extra s z))) _ x.scratch.cache.made
          (λ s z. omega (arith, q.plain (stack-slots t at b bl) s z)) q.good))
          (λ _. g)

      pub move-good : (to from : Place) (v : ℕ) (k : ScratchAllocator) → Kept extra k → All (Kept extra) (do_move t f b to from v k)
      unfolding do_move Kept
      move-good to from v k g =
          all_then (Kept extra) (Kept extra) (move_edits t f b to from v (unevict_for_reg t f to (unevict_for_reg t f from k))) _
          (edits-good to from v (unevict_for_reg t f to (unevict_for_reg t f from k)) (some_good to (unevict_for_reg t f from k) extra (some_good from k extra g)))
          (λ k' q. q)

    module _ (r : Remat) (ok : RematOk t f false r) (extra : Count) where
      abbrev c : ℕ
      c = remat_class f r.value

      abbrev b : ℕ
      b = bank_for_class t c

      b_there : b < num_banks t
      b_there = subst (λ (x : ℕ). x < num_banks t) (sym (af.own r.value ok.value-named ok.can)) (af.bank r.value ok.value-named)

      pub scratch-good : (k : ScratchAllocator) → Kept extra k → All (Kept extra) (remat_with_scratch t f r k)
      unfolding remat_with_scratch Kept
      scratch-good k g =
          all_then (Search b c extra) (Kept extra) (get_scratch_reg t f b c (nothing_barred t f) (unevict_for_reg t f r.dest k)) _
          (search-good b c extra (nothing_barred t f) (unevict_for_reg t f r.dest k) (some_good r.dest k extra g))
          (λ x q. all_then (Kept (λ s z. holds x.place (spillslot_size t b) s z + extra s z)) (Kept extra) (move_edits t f b r.dest x.place r.value x.scratch) _
          (edits-good b b_there (λ s z. holds x.place (spillslot_size t b) s z + extra s z) r.dest x.place r.value x.scratch q.good)
          (λ k' h. place-good (spillslot_size t b) x.place (push (Rematerialize x.place r.value) k') extra h))

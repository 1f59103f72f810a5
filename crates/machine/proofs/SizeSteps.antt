-- 02 j: a search, a move and a rebuild name each slot with its own size, and take none of a size of which 127 and one for each kept eviction are counted.
use Prim.Native.Nat.{ℕ, pred, ◌+◌, ◌<◌, ◌≤◌}
use mathlib.Core.Path.{◌≡◌, refl, sym, ap, subst, ◌∙◌}
use mathlib.Core.Bool.{Bool, true, false, false≢true, or-true}
use mathlib.Core.List.{List, [], ◌∷◌}
use mathlib.Core.Option.{Option, none, some}
use mathlib.Core.Logic.{◌⊎◌, inl, inr, ⊎_elim}
use native.Mathlib.Omega.{arith}
use lib.Dec.{eqb}
use lib.ListN.{length}
use borrow.Author.Tests.{eq-eqb, eqb-true, ltb-true}
use Rattle.entity.specs.Logic.{and, or, has}
use Rattle.entity.specs.Place.{Place, reg, slot, same_place}
use Rattle.reginfo.specs.RegInfo.{RegInfo, num_banks, num_classes, bank_for_reg, bank_for_class, allocation_order, class_members, includes_spillslots, last_in_order, is_memory, spillslot_size, stack_to_stack_class}
use Rattle.reginfo.specs.Refused as target
use Rattle.reginfo.proofs.Accepted.{stack-slots, stack-bank, stack-fits, last-ordered, order-member, member-bank}
use Rattle.function.specs.Function.{Function, num_values, value_bank, remat_class}
use Rattle.rules.specs.Edit.{Move, Rematerialize, EmergencyReload, find}
use Rattle.rules.specs.Scratch.{Cache, Evicted, ScratchAllocator, push, Found, unevict_for_reg, make_room, acquire, usable, slot_scratch, evict_last, reuse, or_scratch, get_scratch_reg, nothing_barred, move_edits, do_move, meeting, searched_to}
use Rattle.rules.specs.Order.{Remat, remats, do_remat, remat_with_scratch}
use Rattle.rules.specs.Patch.{names_place}
use Rattle.rules.specs.Sorted.{RematOk}
use Rattle.rules.specs.Counts.{sum}
use Rattle.rules.proofs.Evictions.{room-few}
use Rattle.rules.proofs.Steps.{All, all_then, branch, Every}
use Rattle.rules.proofs.Sum.{sum-zero}
use Rattle.machine.specs.Enough.{is_size, names_slot}
use Rattle.machine.proofs.Banked.{Banked}
use Rattle.machine.proofs.SlotCounts.{one-here, holds, waits, Count}
use Rattle.machine.proofs.Sums.{sum-plus}
use Rattle.machine.proofs.OwnSize.{holds-few, waits-few, any-index, Nothing, Names, fair-cong, named-push, Taken, acquire-fair, Kept, kept-cong, kept-except, kept_push, some-kept, room-kept, place_kept}

same-slot : (p : Place) (s : ℕ) → same_place p (slot s) ≡ true → p ≡ slot s
same-slot (reg r) s h = absurd (false≢true h)
same-slot (slot x) s h = ap slot (eqb-true x s h)

slot_same : (p : Place) (s : ℕ) → p ≡ slot s → same_place p (slot s) ≡ true
slot_same p s e = rw e (eq-eqb s s refl)

slot_apart : (r s : ℕ) → reg r ≡ slot s → ⊥
slot_apart r s e = let z : ◌≡◌ {A = ℕ} 0 1 = cc in omega arith

pub holds-here : (p : Place) (z s : ℕ) → p ≡ slot s → 0 < holds p z s z
unfolding holds
holds-here (slot x) z s e = let q : s ≡ x = cc in omega (arith, one-here x z s z q refl)
holds-here (reg r) z s e = absurd (slot_apart r s e)

plain-holds : (p : Place) (z s y : ℕ) → ((x : ℕ) → p ≡ slot x → ⊥) → holds p z s y ≡ 0
unfolding holds
plain-holds (slot x) z s y h = absurd (h x refl)
plain-holds (reg r) z s y h = refl

either : (a b : Bool) → or a b ≡ true → (a ≡ true) ⊎ (b ≡ true)
either true b h = inl refl
either false b h = inr h

-- at most n of each size
abbrev pub Slack : ℕ → Count → Type 0
Slack n extra = (m z : ℕ) → sum (λ s. extra s z) m ≤ n

-- nothing is held elsewhere
abbrev pub Zero : Count
Zero s y = 0

zero-slack : (n : ℕ) → Slack n Zero
zero-slack n m z = omega (arith, sum-zero (λ s. 0) m (λ s h. refl))

module _ (t : RegInfo) (f : Function) where
  -- a slot of value v's size that is held elsewhere, or no emergency slot
  abbrev pub Known : Count → ℕ → Place → Type 0
  Known extra v p = (s : ℕ) → p ≡ slot s → f.slots ≤ s → 0 < extra s (spillslot_size t (value_bank f v))

  pub value-size : (v : ℕ) → v < num_values f → is_size t f (spillslot_size t (value_bank f v)) ≡ true
  value-size v h = any-index (λ x. eqb (spillslot_size t (value_bank f x)) (spillslot_size t (value_bank f v))) (num_values f) v h (eq-eqb (spillslot_size t (value_bank f v)) (spillslot_size t (value_bank f v)) refl)

  -- a move names its two places
  move-names : (extra : Count) (to from : Place) (v : ℕ) → Known extra v to → Known extra v from → Names t f extra (Move to from v)
  move-names extra to from v a b s l h =
      ⊎_elim (λ e. a s (same-slot to s e) l) (λ e. b s (same-slot from s e) l) (either (same_place to (slot s)) (same_place from (slot s)) h)

  names-from : (to from : Place) (v s : ℕ) → from ≡ slot s → names_slot t f s (Move to from v) ≡ true
  names-from to from v s e = rw (slot_same from s e) (or-true (same_place to (slot s)))

  -- a place of an entry is no emergency slot
  pub low-place : (extra : Count) (v : ℕ) (p : Place) → names_place t f p ≡ true → Known extra v p
  low-place extra v (reg r) h s e l = absurd (slot_apart r s e)
  low-place extra v (slot x) h s e l = let q : x ≡ s = cc in absurd (omega (arith, ltb-true x f.slots h))

  remat-names : (extra : Count) (to : Place) (v : ℕ) → Known extra v to → Names t f extra (Rematerialize to v)
  remat-names extra to v a s l h = a s (same-slot to s h) l

  module _ (c₀ : Cache) where
    -- a search: its place is held, and need not be named yet; of a class without slots it is no slot
    pub record Search (b c : ℕ) (ex : ℕ → Type 0) (extra : Count) (x : Found) : Type 0 where
      pub kept : Kept t f c₀ (λ s. ex s ⊎ (x.place ≡ slot s)) (λ s z. holds x.place (spillslot_size t b) s z + extra s z) x.scratch
      pub plain : includes_spillslots t c ≡ false → (s : ℕ) → x.place ≡ slot s → ⊥

    module _ (at : target.Accepted t) (af : Banked t f) where
      module _ (b c : ℕ) (i : is_size t f (spillslot_size t b) ≡ true) (cl : c < num_classes t) (cb : bank_for_class t c ≡ b) (ex : ℕ → Type 0) (extra : Count) (slack : Slack 127 extra) where
        reg-found : (r n : ℕ) (k : ScratchAllocator) → Kept t f c₀ ex extra k → Search b c ex extra (record { place = reg r; position = n; scratch = k })
        unfolding holds
        reg-found r n k g =
            record {
              kept = kept-except t f c₀ ex _ _ k (λ s q. inl q) (kept-cong t f c₀ ex extra (λ s z. 0 + extra s z) k (λ s z. omega arith) g);
              plain = λ _ s e. slot_apart r s e;
            }

        slot_kept : (n : ℕ) (k : ScratchAllocator) → includes_spillslots t c ≡ true → Slack 126 extra → Kept t f c₀ ex extra k → All (Search b c ex extra) (slot_scratch t f n b k)
        unfolding slot_scratch holds
        slot_kept n k y less g =
            let z : ℕ = spillslot_size t b in
            all_then (Taken t f c₀ z ex (λ s y. waits k.evicted s y + extra s y) k.edits) (Search b c ex extra) (acquire t f z k.cache) _
            (acquire-fair t f c₀ z k.cache ex (λ s y. waits k.evicted s y + extra s y) k.edits i
            (λ m. omega (arith, sum-plus (λ s. waits k.evicted s z) (λ s. extra s z) m, waits-few k.evicted z m, less m z, g.held)) g.fair g.named)
            (λ a q. record {
              kept =
                  record {
                    fair = fair-cong t f _ _ k.edits (λ s z. omega arith) q.fair;
                    named = λ s lo hi. ⊎_elim (λ r. inl r) (λ r. inr (⊎_elim (λ w. inl w) (λ w. inr (ap slot (sym w))) r)) (q.named s lo hi);
                    held = g.held;
                    own = g.own;
                  };
              plain = λ e. absurd (false≢true (sym e ∙ y));
            })

        last-bank : includes_spillslots t c ≡ false → bank_for_reg t (last_in_order t c) ≡ b
        last-bank e = member-bank t at c (last_in_order t c) cl (order-member t at c (last_in_order t c) cl (last-ordered t at c cl e)) ∙ cb

        evict-kept : (n : ℕ) (k : ScratchAllocator) → includes_spillslots t c ≡ false → length k.evicted ≤ pred f.kept → Kept t f c₀ ex extra k → All (Search b c ex extra) (evict_last t f n b c k)
        unfolding evict_last waits holds
        evict-kept n k y few g =
            let z : ℕ = spillslot_size t b in
            let r : ℕ = last_in_order t c in
            let zr : z ≡ spillslot_size t (bank_for_reg t r) = ap (spillslot_size t) (sym (last-bank y)) in
            all_then (Taken t f c₀ z ex (λ s y. waits k.evicted s y + extra s y) k.edits) (Search b c ex extra) (acquire t f z k.cache) _
            (acquire-fair t f c₀ z k.cache ex (λ s y. waits k.evicted s y + extra s y) k.edits i
            (λ m. omega (arith, sum-plus (λ s. waits k.evicted s z) (λ s. extra s z) m, waits-few k.evicted z m, slack m z, few, af.kept)) g.fair g.named)
            (λ a q. record {
              kept =
                  record {
                    fair =
                        fair-cong t f _ _ _ (λ s z. omega arith)
                        (record { few = q.fair.few; sized = q.fair.sized; lies = ((λ s lo h. omega (arith, one-here a.slot z s (spillslot_size t (bank_for_reg t r)) (sym (eqb-true a.slot s h)) (sym zr))), q.fair.lies) });
                    named =
                        named-push t f c₀ (λ s. ex s ⊎ (s ≡ a.slot)) _ (EmergencyReload r a.slot) k.edits a.cache.made
                        (λ s. ⊎_elim (λ w. inr (inl w)) (λ w. inl (eq-eqb a.slot s (sym w)))) q.named;
                    held = omega (arith, few, af.kept);
                    own = (zr, g.own);
                  };
              plain = λ _ s e. slot_apart r s e;
            })

        reuse-kept : (l : List Evicted) (n : ℕ) (k : ScratchAllocator) → includes_spillslots t c ≡ false → Kept t f c₀ ex extra k → All (Search b c ex extra) (reuse t f l n b c k)
        unfolding reuse
        reuse-kept [] n k y g = evict-kept n (make_room t f (last_in_order t c) k) y (room-few t f (last_in_order t c) k) (room-kept t f c₀ (last_in_order t c) k ex extra g)
        reuse-kept (e ∷ l) n k y g = branch (All (Search b c ex extra)) (has e.reg (class_members t c)) _ _ (λ _. reg-found e.reg n k g) (λ _. reuse-kept l n k y g)

        found-kept : (o : Option ℕ) (n : ℕ) (k : ScratchAllocator) → (includes_spillslots t c ≡ true → Slack 126 extra) → Kept t f c₀ ex extra k → All (Search b c ex extra) (or_scratch t f o n b c k)
        unfolding or_scratch
        found-kept (some r) n k less g = reg-found r n k g
        found-kept none n k less g = branch (All (Search b c ex extra)) (includes_spillslots t c) _ _ (λ y. slot_kept n k y (less y) g) (λ y. reuse-kept k.evicted n k y g)

        pub search-kept : (barred : ℕ → Bool) (k : ScratchAllocator) → (includes_spillslots t c ≡ true → Slack 126 extra) → Kept t f c₀ ex extra k → All (Search b c ex extra) (get_scratch_reg t f b c barred k)
        unfolding get_scratch_reg
        search-kept barred k less g =
            found-kept (find (usable t f barred k) (allocation_order t c)) (searched_to t f c barred k) (meeting (searched_to t f c barred k) k) less
            (record { fair = g.fair; named = g.named; held = g.held; own = g.own })

      module _ (v : ℕ) (vl : v < num_values f) (b : ℕ) (bv : b ≡ value_bank f v) (extra : Count) (slack : Slack 127 extra) (to from : Place) (kt : Known extra v to) (kf : Known extra v from) where
        b_there : b < num_banks t
        b_there = subst (λ (x : ℕ). x < num_banks t) (sym bv) (af.bank v vl)

        b-size : is_size t f (spillslot_size t b) ≡ true
        b-size = subst (λ (x : ℕ). is_size t f (spillslot_size t x) ≡ true) (sym bv) (value-size v vl)

        -- a move names its source, if that is not named yet
        edits-kept : (ex : ℕ → Type 0) (k : ScratchAllocator) → ((s : ℕ) → ex s → from ≡ slot s) → Kept t f c₀ ex extra k → All (Kept t f c₀ Nothing extra) (move_edits t f b to from v k)
        unfolding move_edits
        edits-kept ex k h g =
            let c : ℕ = stack_to_stack_class t b in
            let y : includes_spillslots t c ≡ false = stack-slots t at b b_there in
            branch (All (Kept t f c₀ Nothing extra)) (and (is_memory t to) (is_memory t from)) _ _
            (λ _. all_then (Search b c ex extra) (Kept t f c₀ Nothing extra) (get_scratch_reg t f b c (nothing_barred t f) k) _
            (search-kept b c b-size (stack-fits t at b b_there) (stack-bank t at b b_there) ex extra slack (nothing_barred t f) k (λ e. absurd (false≢true (sym y ∙ e))) g)
            (λ x q. kept_push t f c₀ ex Nothing extra (Move x.place from v) (push (Move to x.place v) x.scratch)
            (move-names extra x.place from v (λ s e _. absurd (q.plain y s e)) kf) (λ s w. inl (names-from x.place from v s (h s w)))
            (kept_push t f c₀ ex ex extra (Move to x.place v) x.scratch (move-names extra to x.place v kt (λ s e _. absurd (q.plain y s e))) (λ s w. inr w)
            (kept-except t f c₀ (λ s. ex s ⊎ (x.place ≡ slot s)) ex extra x.scratch (λ s. ⊎_elim (λ w. w) (λ w. absurd (q.plain y s w)))
            (kept-cong t f c₀ _ (λ s z. holds x.place (spillslot_size t b) s z + extra s z) extra x.scratch (λ s z. omega (arith, plain-holds x.place (spillslot_size t b) s z (q.plain y))) q.kept)))))
            (λ _. kept_push t f c₀ ex Nothing extra (Move to from v) k (move-names extra to from v kt kf) (λ s w. inl (names-from to from v s (h s w))) g)

        pub move-kept : (ex : ℕ → Type 0) (k : ScratchAllocator) → ((s : ℕ) → ex s → from ≡ slot s) → Kept t f c₀ ex extra k → All (Kept t f c₀ Nothing extra) (do_move t f b to from v k)
        unfolding do_move
        move-kept ex k h g =
            all_then (Kept t f c₀ Nothing extra) (Kept t f c₀ Nothing extra) (move_edits t f b to from v (unevict_for_reg t f to (unevict_for_reg t f from k))) _
            (edits-kept ex (unevict_for_reg t f to (unevict_for_reg t f from k)) h (some-kept t f c₀ to (unevict_for_reg t f from k) ex extra (some-kept t f c₀ from k ex extra g)))
            (λ k' q. record { fair = q.fair; named = q.named; held = q.held; own = q.own })

      pub remats-kept : (l : List Remat) → Every (RematOk t f true) l → (k : ScratchAllocator) → Kept t f c₀ Nothing Zero k → Kept t f c₀ Nothing Zero (remats t f l k)
      unfolding remats
      remats-kept [] o k g = g
      remats-kept (r ∷ l) o k g =
          remats-kept l o.1 (do_remat t f r k)
          (let q = kept_push t f c₀ Nothing Nothing Zero (Rematerialize r.dest r.value) k (remat-names Zero r.dest r.value (low-place Zero r.value r.dest o.0.dest-named)) (λ s w. inr w) g in
          record { fair = q.fair; named = q.named; held = q.held; own = q.own })

      module _ (r : Remat) (ok : RematOk t f false r) where
        abbrev rv : ℕ
        rv = r.value

        abbrev c : ℕ
        c = remat_class f rv

        abbrev b : ℕ
        b = bank_for_class t c

        bv : b ≡ value_bank f rv
        bv = af.own rv ok.value-named ok.can

        pub scratch-kept : (k : ScratchAllocator) → Kept t f c₀ Nothing Zero k → All (Kept t f c₀ Nothing Zero) (remat_with_scratch t f r k)
        unfolding remat_with_scratch
        scratch-kept k g =
            let z : ℕ = spillslot_size t b in
            all_then (Search b c Nothing Zero) (Kept t f c₀ Nothing Zero) (get_scratch_reg t f b c (nothing_barred t f) (unevict_for_reg t f r.dest k)) _
            (search-kept b c (subst (λ (x : ℕ). is_size t f (spillslot_size t x) ≡ true) (sym bv) (value-size rv ok.value-named)) (af.class rv ok.value-named ok.can) refl Nothing Zero (zero-slack 127)
            (nothing_barred t f) (unevict_for_reg t f r.dest k) (λ _. zero-slack 126) (some-kept t f c₀ r.dest k Nothing Zero g))
            (λ x q. let extra : Count = λ s y. holds x.place z s y + 0 in
            let known : Known extra rv x.place = λ s e l. let w : 0 < holds x.place z s z = holds-here x.place z s e in
            subst (λ (j : ℕ). 0 < extra s (spillslot_size t j)) bv (omega arith) in
            all_then (Kept t f c₀ Nothing extra) (Kept t f c₀ Nothing Zero) (move_edits t f b r.dest x.place rv x.scratch) _
            (edits-kept rv ok.value-named b bv extra (λ m y. omega (arith, sum-plus (λ s. holds x.place z s y) (λ s. 0) m, holds-few x.place z y m, sum-zero (λ s. 0) m (λ s h. refl))) r.dest x.place
            (low-place extra rv r.dest ok.dest-named) known (λ s. ⊥ ⊎ (x.place ≡ slot s)) x.scratch (λ s. ⊎_elim (λ w. absurd w) (λ w. w)) q.kept)
            (λ k' h. let p = place_kept t f c₀ z x.place (push (Rematerialize x.place rv) k') Nothing Zero
            (kept_push t f c₀ Nothing Nothing extra (Rematerialize x.place rv) k' (remat-names extra x.place rv known) (λ s w. inr w) h) in
            record { fair = p.fair; named = p.named; held = p.held; own = p.own }))

-- Lists of edits that demand 3 does not accept, by computation from one start each.
use Prim.Native.Nat.{ℕ, zero, suc, ◌<◌, ◌≤◌}
use mathlib.Core.Path.{◌≡◌, refl, sym, ap, ◌∙◌}
use mathlib.Core.Bool.{Bool, true, false, false≢true}
use mathlib.Core.List.Memᴰ
use mathlib.Core.List.{List, [], ◌∷◌}
use mathlib.Core.Option.{Option, none, some}
use mathlib.Core.Logic.{◌⊎◌, inl, inr}
use native.Mathlib.Omega.{arith}
use lib.ListN.{length, get_or, take}
use Rattle.entity.specs.Logic.{any_in, all_in, has, meets, twice, last_or, indices}
use Rattle.entity.specs.Place.{Place, reg, slot}
use Rattle.reginfo.specs.RegInfo.{spillslot_size, top_level_class, stack_to_stack_class, reg_memory, bank_for_reg, reg_units, bank_for_class, class_slots, class_members, allocation_order}
use Rattle.reginfo.specs.Refused.{order_total, counts_fit, bank_fits, reg_fits, class_fits, outside_limits, listed_twice, unequal_widths, foreign_member, shared_memory, unfit_class, first_of, target_refusal}
use Rattle.function.specs.Function.{value_bank, remat_cost, remat_class, is_setting}
use Rattle.function.specs.Refused as function
use Rattle.rules.specs.Edit.{Edit, Move, EmergencySpill, updated, and_then, each, find, filter}
use Rattle.rules.specs.Scratch.{acquire_from, unevict, unevict_but, unevict_for_reg, make_room, slot_scratch, evict_last, reuse, or_scratch, get_scratch_reg, move_edits, do_move}
use Rattle.rules.specs.Order.{KeptMove, no_move, carry_one, carry, remats, remat_with_scratch, writer_from, writers_of, writers, cycle_move_sources, divert, lead, undivert, undivert_all, close, visit, visit_unless_memory, start, moves}
use Rattle.rules.specs.Patch.{move, Patch, destinations, add, sorted_from, sorted, entry_conditions, patch_conditions, run, resolve_sorted, resolve_from, resolve}
use Rattle.machine.specs.Machine.{Memory, Machine, Written, begin, put, read, write, fits, step, steps, counted, seen}
use Rattle.machine.specs.Claim.{Contents, Holding, OfValue, IsScratch, RightFrom, Stopped, Finished, Accepted}
use Rattle.machine.specs.Before as old
use Rattle.machine.specs.NotAccepted as lists
use Rattle.machine.specs.NotAccepted.{seven, values, words, holding, Wrong, right, NotAccepted}

-- a wrong list is not accepted
pub wrong-not-accepted : (p : Patch) (content : ℕ → List ℕ) (start : Memory) (es : List Edit) → Wrong p content start es → Accepted seven values p es → ⊥
wrong-not-accepted p content start es w a = w.not_right (a.right content w.whole start w.holds)

-- each content has one word, as each register of bank 0 has one unit
whole : (a b c : ℕ) → Contents seven values (words a b c)
unfolding seven reg_units bank_for_reg value_bank
whole a b c v r hv hr m e = one v hv ∙ sym (width r hr (e ∙ first v hv))
  where
    one : (v : ℕ) → v < 3 → length (words a b c v) ≡ 1
    one zero h = refl
    one (suc zero) h = refl
    one (suc (suc v)) h = refl

    first : (v : ℕ) → v < 3 → value_bank values v ≡ 0
    first zero h = refl
    first (suc zero) h = refl
    first (suc (suc zero)) h = refl
    first (suc (suc (suc v))) h = absurd (omega arith)

    width : (r : ℕ) → r < 8 → bank_for_reg seven r ≡ 0 → length (reg_units seven r) ≡ 1
    width zero h e = refl
    width (suc zero) h e = refl
    width (suc (suc zero)) h e = refl
    width (suc (suc (suc zero))) h e = refl
    width (suc (suc (suc (suc zero)))) h e = refl
    width (suc (suc (suc (suc (suc zero))))) h e = refl
    width (suc (suc (suc (suc (suc (suc zero)))))) h e = absurd (let z : ◌≡◌ {A = ℕ} 1 0 = e in omega arith)
    width (suc (suc (suc (suc (suc (suc (suc zero))))))) h e = absurd (let z : ◌≡◌ {A = ℕ} 1 0 = e in omega arith)
    width (suc (suc (suc (suc (suc (suc (suc (suc r)))))))) h e = absurd (omega arith)

-- what k edits lead to
the : Machine → Option Machine → Machine
the d none = d
the d (some s) = s

can : Option Machine → Bool
can none = false
can (some s) = true

module _ (p : Patch) (content : ℕ → List ℕ) (m : Memory) (es : List Edit) (r : RightFrom seven values p content m es) where
  after : ℕ → Machine
  after k = the (begin m) (steps seven values content (take k es) (begin m))

  stopped : (k : ℕ) → Stopped seven values p content m (after k)
  unfolding after the
  stopped k = let y = r.stops k in rw y.1 y.2

  finished : Finished seven values p content (the (begin m) (steps seven values content es (begin m)))
  unfolding the
  finished = let y = r.ends in rw y.1 y.2

  can-do : can (steps seven values content es (begin m)) ≡ true
  unfolding can
  can-do = rw r.ends.1

-- the kept moves
abbrev m0 : KeptMove
m0 = record { source = reg 0; dest = reg 1; value = 0 }

abbrev all-kept : List KeptMove
all-kept = m0 ∷ record { source = reg 2; dest = reg 0; value = 1 } ∷ record { source = reg 3; dest = reg 4; value = 2 } ∷ []

one_kept : (sorted seven values lists.one).moves ≡ m0 ∷ []
unfolding seven any_in has reg_memory class_members remat_cost remat_class sorted_from add
one_kept = refl

three-kept : (sorted seven values lists.three).moves ≡ all-kept
unfolding seven any_in has reg_memory class_members remat_cost remat_class sorted_from add
three-kept = refl

stored-kept : (sorted seven values lists.stored).moves ≡ record { source = slot 0; dest = slot 1; value = 1 } ∷ []
unfolding seven any_in has reg_memory class_members remat_cost remat_class sorted_from add
stored-kept = refl

one_holds : Holding seven values lists.one (words 70 71 72) lists.start
unfolding seven reg_units reg_memory read
one_holds = rw one_kept at
  where
    at : (i : ℕ) → i < 1 → read seven values lists.start (get_or (m0 ∷ []) i no_move).source ≡ words 70 71 72 (get_or (m0 ∷ []) i no_move).value
    at zero h = refl
    at (suc i) h = absurd (omega arith)

stored-holds : Holding seven values lists.stored (words 70 71 72) lists.start
unfolding seven reg_units updated read
stored-holds = rw stored-kept at
  where
    at : (i : ℕ) → i < 1 → read seven values lists.start (get_or (record { source = slot 0; dest = slot 1; value = 1 } ∷ []) i no_move).source ≡ words 70 71 72 (get_or (record { source = slot 0; dest = slot 1; value = 1 } ∷ []) i no_move).value
    at zero h = refl
    at (suc i) h = absurd (omega arith)

-- 70, 71 and c in r0, r2 and r3
three-holds : (c d : ℕ) (x y : List ℕ) → Holding seven values lists.three (words 70 71 c) (holding (70 ∷ 1 ∷ 71 ∷ c ∷ 4 ∷ d ∷ 6 ∷ 7 ∷ []) x y)
unfolding seven reg_units reg_memory read
three-holds c d x y = rw three-kept at
  where
    at : (i : ℕ) → i < 3 → read seven values (holding (70 ∷ 1 ∷ 71 ∷ c ∷ 4 ∷ d ∷ 6 ∷ 7 ∷ []) x y) (get_or all-kept i no_move).source ≡ words 70 71 c (get_or all-kept i no_move).value
    at zero h = refl
    at (suc zero) h = refl
    at (suc (suc zero)) h = refl
    at (suc (suc (suc i))) h = absurd (omega arith)

-- two lists that begin with different words
differ : {x y : ℕ} {l m : List ℕ} → (x ≡ y → ⊥) → x ∷ l ≡ y ∷ m → ⊥
differ n e = n (ap (λ (l : List ℕ). get_or l 0 0) e)

-- no scratch place that is r1 holds 70 where r1 counts as holding 1
not-in-r1 : (s : Machine) → read seven values (seen seven values s) (reg 1) ≡ 1 ∷ [] → (q : Place) → q ≡ reg 1 → read seven values (seen seven values s) q ≡ 70 ∷ [] → ⊥
not-in-r1 s r1 q p e = differ (λ (z : 1 ≡ 70). omega arith) (sym r1 ∙ ap (read seven values (seen seven values s)) (sym p) ∙ e)

-- where r0 holds 71, r1 counts as holding 1 and no scratch place holds 70, value 0 is lost
module _ (c : ℕ) (s : Machine) (r0 : read seven values (seen seven values s) (reg 0) ≡ 71 ∷ []) (r1 : read seven values (seen seven values s) (reg 1) ≡ 1 ∷ [])
    (alone : (q : Place) → IsScratch seven values lists.three (words 70 71 c) s q 0 → read seven values (seen seven values s) q ≡ 70 ∷ [] → ⊥)
  where
    nowhere : (q : Place) → read seven values (seen seven values s) q ≡ 70 ∷ [] → OfValue seven values lists.three (words 70 71 c) q 0 ⊎ IsScratch seven values lists.three (words 70 71 c) s q 0 → ⊥
    unfolding seven any_in has reg_memory class_members remat_cost remat_class sorted_from add
    nowhere q e (inl (zero, h, v, inl p)) = differ (λ (z : 71 ≡ 70). omega arith) (sym r0 ∙ ap (read seven values (seen seven values s)) (sym p) ∙ e)
    nowhere q e (inl (zero, h, v, inr p)) = differ (λ (z : 1 ≡ 70). omega arith) (sym r1 ∙ ap (read seven values (seen seven values s)) (sym p) ∙ e)
    nowhere q e (inl (suc zero, h, v, p)) = omega arith
    nowhere q e (inl (suc (suc zero), h, v, p)) = omega arith
    nowhere q e (inl (suc (suc (suc i)), h, v, p)) = omega arith
    nowhere q e (inr m) = alone q m e

    lost : (m : Memory) → Stopped seven values lists.three (words 70 71 c) m s → ⊥
    unfolding seven any_in has reg_memory class_members remat_cost remat_class sorted_from add
    lost m st = let w = st.survives 0 (omega arith) in nowhere w.0 w.1 w.2

-- what was written and does not begin with 70
other : {q p : Place} {x : ℕ} {A : Type 0} → (x ≡ 70 → ⊥) → ◌≡◌ {A = Written} (record { place = q; words = 70 ∷ [] }) (record { place = p; words = x ∷ [] }) → A
other n e = absurd (differ n (sym (ap (λ (w : Written). w.words) e)))

-- the edit that loses value 0
abbrev losing : Edit
losing = Move (reg 0) (reg 2) 1

-- at once
module _ (c : ℕ) (x y : List ℕ) (es : List Edit) where
  abbrev begun : Memory
  begun = holding (70 ∷ 1 ∷ 71 ∷ c ∷ 4 ∷ 5 ∷ 6 ∷ 7 ∷ []) x y

  lost-at-once : RightFrom seven values lists.three (words 70 71 c) begun (losing ∷ es) → ⊥
  unfolding seven reg_units reg_memory updated and_then put read write fits step steps counted the after
  lost-at-once r = lost c (after _ _ _ _ r 1) refl refl (λ q m. not-in-r1 (after _ _ _ _ r 1) refl q (alone q m)) begun (stopped _ _ _ _ r 1)
    where
      alone : (q : Place) → IsScratch seven values lists.three (words 70 71 c) (after _ _ _ _ r 1) q 0 → q ≡ reg 1
      alone q (Memᴰ.head w) = other (λ (z : 71 ≡ 70). omega arith) w
      alone q (Memᴰ.tail m) = absurd (Memᴰ.not-nil m)

-- while r1 waits
module _ (es : List Edit) where
  abbrev after-3 : List Edit
  after-3 = EmergencySpill 2 1 ∷ right ∷ losing ∷ es

  lost-waiting : RightFrom seven values lists.three (words 70 71 72) lists.start after-3 → ⊥
  unfolding seven reg_units reg_memory updated and_then filter put read write fits step steps counted the after
  lost-waiting r = lost 72 (after _ _ _ _ r 3) refl refl (λ q m. not-in-r1 (after _ _ _ _ r 3) refl q (alone q m)) lists.start (stopped _ _ _ _ r 3)
    where
      alone : (q : Place) → IsScratch seven values lists.three (words 70 71 72) (after _ _ _ _ r 3) q 0 → q ≡ reg 1
      alone q (Memᴰ.head w) = other (λ (z : 71 ≡ 70). omega arith) w
      alone q (Memᴰ.tail (Memᴰ.head w)) = ap (λ (w : Written). w.place) w
      alone q (Memᴰ.tail (Memᴰ.tail (Memᴰ.head w))) = other (λ (z : 1 ≡ 70). omega arith) w
      alone q (Memᴰ.tail (Memᴰ.tail (Memᴰ.tail m))) = absurd (Memᴰ.not-nil m)

  abbrev after-4 : List Edit
  after-4 = EmergencySpill 2 1 ∷ EmergencySpill 3 3 ∷ right ∷ losing ∷ es

  lost-earlier : RightFrom seven values lists.three (words 70 71 72) lists.start after-4 → ⊥
  unfolding seven reg_units reg_memory updated and_then filter put read write fits step steps counted the after
  lost-earlier r = lost 72 (after _ _ _ _ r 4) refl refl (λ q m. not-in-r1 (after _ _ _ _ r 4) refl q (alone q m)) lists.start (stopped _ _ _ _ r 4)
    where
      alone : (q : Place) → IsScratch seven values lists.three (words 70 71 72) (after _ _ _ _ r 4) q 0 → q ≡ reg 1
      alone q (Memᴰ.head w) = other (λ (z : 71 ≡ 70). omega arith) w
      alone q (Memᴰ.tail (Memᴰ.head w)) = ap (λ (w : Written). w.place) w
      alone q (Memᴰ.tail (Memᴰ.tail (Memᴰ.head w))) = other (λ (z : 72 ≡ 70). omega arith) w
      alone q (Memᴰ.tail (Memᴰ.tail (Memᴰ.tail (Memᴰ.head w)))) = other (λ (z : 1 ≡ 70). omega arith) w
      alone q (Memᴰ.tail (Memᴰ.tail (Memᴰ.tail (Memᴰ.tail m)))) = absurd (Memᴰ.not-nil m)

  -- while r5 waits, which was written with other words
  abbrev after-5 : List Edit
  after-5 = EmergencySpill 2 5 ∷ Move (slot 2) (reg 2) 1 ∷ Move (reg 5) (reg 2) 1 ∷ losing ∷ es

  abbrev begun-5 : Memory
  begun-5 = holding (70 ∷ 1 ∷ 71 ∷ 72 ∷ 4 ∷ 70 ∷ 6 ∷ 7 ∷ []) (71 ∷ []) (9 ∷ [])

  lost-written : RightFrom seven values lists.three (words 70 71 72) begun-5 after-5 → ⊥
  unfolding seven reg_units reg_memory updated and_then filter put read write fits step steps counted the after
  lost-written r = lost 72 (after _ _ _ _ r 4) refl refl alone begun-5 (stopped _ _ _ _ r 4)
    where
      alone : (q : Place) → IsScratch seven values lists.three (words 70 71 72) (after _ _ _ _ r 4) q 0 → read seven values (seen seven values (after _ _ _ _ r 4)) q ≡ 70 ∷ [] → ⊥
      alone q (Memᴰ.head w) e = other (λ (z : 71 ≡ 70). omega arith) w
      alone q (Memᴰ.tail (Memᴰ.head w)) e = other (λ (z : 71 ≡ 70). omega arith) w
      alone q (Memᴰ.tail (Memᴰ.tail (Memᴰ.head w))) e = other (λ (z : 71 ≡ 70). omega arith) w
      alone q (Memᴰ.tail (Memᴰ.tail (Memᴰ.tail (Memᴰ.head w)))) e =
          differ (λ (z : 71 ≡ 70). omega arith) (ap (read seven values (seen seven values (after _ _ _ _ r 4))) (sym (ap (λ (w : Written). w.place) w)) ∙ e)
      alone q (Memᴰ.tail (Memᴰ.tail (Memᴰ.tail (Memᴰ.tail m)))) e = absurd (Memᴰ.not-nil m)

pub not-accepted : NotAccepted
unfolding any_in all_in has meets last_or indices spillslot_size top_level_class stack_to_stack_class reg_memory bank_for_reg reg_units bank_for_class class_slots class_members allocation_order first_of value_bank remat_cost remat_class updated and_then each find filter acquire_from unevict unevict_but unevict_for_reg make_room slot_scratch evict_last reuse or_scratch get_scratch_reg move_edits do_move carry_one carry remats remat_with_scratch writer_from writers_of writers cycle_move_sources divert lead undivert undivert_all close visit visit_unless_memory start moves destinations add sorted_from entry_conditions patch_conditions run resolve_sorted resolve_from resolve seven order_total counts_fit bank_fits reg_fits class_fits outside_limits listed_twice unequal_widths foreign_member shared_memory unfit_class target_refusal twice is_setting function.counts_fit function.value_fits function.foreign_class function.values_refusal function.function_refusal put read write fits step steps counted old.read old.write old.fits old.step old.steps old.counted the can after
not-accepted =
    record {
      target-taken = refl;
      function-taken = refl;
      one-taken = refl;
      three-taken = refl;
      stored-taken = refl;
      foreign-register = plainly-wrong _ (omega arith) (λ r. let e : 70 ≡ 71 = ((stopped _ _ _ _ r 2).units 2 (omega arith) refl refl).0 in omega arith);
      foreign-word = plainly-wrong _ (omega arith) (λ r. differ (λ (z : 70 ≡ 80). omega arith) ((stopped _ _ _ _ r 2).units 8 (omega arith) refl refl).1);
      foreign-slot = plainly-wrong _ (omega arith) (λ r. differ (λ (z : 70 ≡ 9). omega arith) ((stopped _ _ _ _ r 2).slots 1 (omega arith) refl));
      source-overwritten = plainly-wrong _ (omega arith) (λ r. let e : 71 ≡ 70 = ((stopped _ _ _ _ r 2).units 0 (omega arith) refl refl).0 in omega arith);
      source-slot-overwritten =
          record { whole = whole 70 71 72; holds = stored-holds; within = omega arith; not_right = λ r. differ (λ (z : 70 ≡ 71). omega arith) ((stopped _ _ _ _ r 5).slots 0 (omega arith) refl) };
      left-waiting = plainly-wrong _ (omega arith) (λ r. let e : 1 ≡ 0 = ap length (finished _ _ _ _ r).none-waits in omega arith);
      saved-lost = plainly-wrong _ (omega arith) (λ r. let e : 70 ≡ 71 = ((stopped _ _ _ _ r 3).units 2 (omega arith) refl refl).0 in omega arith);
      waiting-lost = record { whole = whole 70 71 72; holds = three-holds 72 5 _ _; within = omega arith; not_right = lost-waiting _ };
      earlier-lost = record { whole = whole 70 71 72; holds = three-holds 72 5 _ _; within = omega arith; not_right = lost-earlier _ };
      empty = plainly-wrong _ (omega arith) (λ r. differ (λ (z : 1 ≡ 70). omega arith) ((finished _ _ _ _ r).entries (move (reg 0) (reg 1) 0) (Memᴰ.head refl)));
      lost-to-chance = record { whole = whole 70 71 72; holds = three-holds 72 5 _ _; within = omega arith; not_right = lost-at-once 72 _ _ _ };
      lost-to-another = record { whole = whole 70 71 70; holds = three-holds 70 5 _ _; within = omega arith; not_right = lost-at-once 70 _ _ _ };
      written-otherwise = record { whole = whole 70 71 72; holds = three-holds 72 70 _ _; within = omega arith; not_right = lost-written _ };
      memory-to-memory = record { whole = whole 70 71 72; holds = stored-holds; within = omega arith; not_right = λ r. false≢true (can-do _ _ _ _ r) };
      word-to-slot = plainly-wrong _ (omega arith) (λ r. false≢true (can-do _ _ _ _ r));
      slot-to-word = record { whole = whole 70 71 72; holds = one_holds; within = omega arith; not_right = λ r. false≢true (can-do _ _ _ _ r) };
      another-length = plainly-wrong _ (omega arith) (λ r. false≢true (can-do _ _ _ _ r));
      reload-of-another-length = plainly-wrong _ (omega arith) (λ r. false≢true (can-do _ _ _ _ r));
      outside-its-class = plainly-wrong _ (omega arith) (λ r. false≢true (can-do _ _ _ _ r));
      not-rebuildable = plainly-wrong _ (omega arith) (λ r. false≢true (can-do _ _ _ _ r));
      counts-as-saved = (_, refl, refl);
      not-kept = λ a. differ (λ (z : 70 ≡ 71). omega arith) (a.saved (words 70 71 72) (whole 70 71 72) lists.start one_holds 2 _ refl _ (Memᴰ.head refl));
      not-as-held = λ e. differ (λ (z : 80 ≡ 0). omega arith) e;
      not-as-done = λ e. let z : ◌≡◌ {A = ℕ} 0 1 = cc in omega arith;
      not-all-as-done = λ e. let z : ◌≡◌ {A = ℕ} 0 1 = cc in omega arith;
      not-as-seen = λ e. let z : ◌≡◌ {A = ℕ} 0 9 = ap (λ (m : old.Memory). m.word 8) e in omega arith;
      over-the-bound = λ a. let h : 9 ≤ 8 = a.few in omega arith;
    }
  where
    plainly-wrong : (es : List Edit) → length es ≤ 8 → (RightFrom seven values lists.one (words 70 71 72) lists.start es → ⊥) → lists.plainly lists.one es
    plainly-wrong es h n = record { whole = whole 70 71 72; holds = one_holds; within = h; not_right = n }

-- Demand 3, with every premise from acceptance.
use mathlib.Core.Path.{◌≡◌, refl, sym, ◌∙◌, ap, subst}
use mathlib.Core.Bool.{Bool, true, false, not, ◌&&◌, ◌||◌}
use mathlib.Core.List.{List, [], ◌∷◌, ◌++◌, map}
use mathlib.Core.Option.{Option, none, some}
use mathlib.Core.Logic.{◌⊎◌, inl, inr, ⊎_elim}
use Prim.Native.Nat.{ℕ, zero, suc, ◌+◌, ◌≤◌, ◌<◌}
use native.Mathlib.Omega.{arith}
use native.Mathlib.Nat.{add_left_cancel}
use native.Mathlib.Decide.{dec_lt}
use lib.Dec.{T, T_not, eqb→eq, eqb_refl}
use lib.ListN.{length, get_or, take, replicate, length-replicate}
use Rattle.entity.specs.Logic.{has, any_in, twice}
use Rattle.entity.specs.Place.{Place, reg, slot, same_place}
use Rattle.reginfo.specs.RegInfo.{RegInfo, num_classes, num_banks, reg_units, bank_for_class, class_members, includes_spillslots, last_in_order, top_level_class, stack_to_stack_class, overlap}
use Rattle.reginfo.specs.Refused as target
use Rattle.reginfo.proofs.Accepted.{top-fits, stack-fits, same_width, order-member, top-bank, stack-bank, top-slots, stack-slots, stack-memory, last-memory, last-ordered, member-fits, member-bank}
use Rattle.function.specs.Function.{Function, num_values, value_bank, can_rematerialize, remat_class}
use Rattle.function.specs.Refused as function
use Rattle.function.proofs.Laws.{bank-there}
use Rattle.rules.specs.Edit.{Edit}
use Rattle.rules.specs.Scratch.{Cache, empty_cache, units_of_reg}
use Rattle.rules.specs.Order.{KeptMove, Remat, source, dest, value}
use Rattle.rules.specs.Patch.{Entry, Patch, Sorted, sorted, destinations, run, Answer, refused, resolved, resolve, Call, cache_after}
use Rattle.rules.specs.Sorted.{SortedOk, RematOk, Ran}
use Rattle.rules.specs.Take.{Request, Served, fresh, Standing, stamped_by, request, standing, after}
use Rattle.rules.proofs.Accepted.{accepted}
use Rattle.rules.proofs.Take.{Previews, previews-fresh, previews-after, stands}
use Rattle.machine.specs.Machine.{Memory, Machine, begin, fits, steps}
use Rattle.machine.specs.Claim.{entry_dest, entry_value, Contents, OfValue, Saved, Stopped, Finished, Right, Keeps, Accepted, Answered, Owed, RequestsClaim, Claim, Demand3}
use Rattle.rules.proofs.Steps.{All}
use Rattle.machine.proofs.Tests.{has_in, both, yes_of, no_of, of-yes, of-no, never}
use Rattle.machine.proofs.Memory.{distinct, TargetOk, covers, Apart}
use Rattle.machine.proofs.Run.{Job, Stop, Final, stops, ends}
use Rattle.machine.proofs.Sound.{Within, can}
use Rattle.machine.proofs.Cache.{CacheOk}
use Rattle.machine.proofs.Search.{ClassOk, place-covers}
use Rattle.machine.proofs.Emit.{StackOk}
use Rattle.machine.proofs.Order.{PatchOk}
use Rattle.machine.proofs.Whole.{In, EntryOk, PlainsOk, ScratchesOk, NeedR, PatchStart, Done, whole-ok}
use Rattle.machine.proofs.Premises.{has-reverse, Disjoint, disjoint, disjoint_comm, remat_at, kept-passes, remat-passes, scratch-passes, last_apart, dest-disjoint, dest-remat, dest-scratch, remat-remat, remat-scratch, scratch-scratch, writes, free-kept, free-remat, free-scratch, written, barred, remat-class, remat-bank, dest-fits, remat-fits, scratch-fits, member-holds, reg-low, reg-once, reg-own, member-unit, reg-kinds, beyond}
use Rattle.machine.proofs.Entries.{Became, dests-are, entry-ends}
use Rattle.machine.proofs.Bound.{bound-ok}

once-distinct : (l : List ℕ) → twice l ≡ false → T (distinct l)
unfolding twice distinct
once-distinct [] e = tt
once-distinct (x ∷ l) e = go (has x l) (twice l) e (once-distinct l)
  where
    go : (a b : Bool) → (a || b) ≡ false → (b ≡ false → T (distinct l)) → T (not a && distinct l)
    go true b e h = absurd (let z : ◌≡◌ {A = ℕ} 0 1 = cc in omega arith)
    go false b e h = h e

-- where a rebuild stands in its list
in-at : (t : RegInfo) (f : Function) (l : List Remat) (q : Place) (x : ℕ) → In l q x → (i : ℕ) × (i < length l) × (q ≡ (remat_at t f l i).dest) × (x ≡ (remat_at t f l i).value)
in-at t f [] q x x3 = elim x3 [ ]
in-at t f (r ∷ l) q x (inl h) = (0, omega arith, h.0, h.1)
in-at t f (r ∷ l) q x (inr h) = let y = in-at t f l q x h in (suc y.0, omega (arith, y.1), y.2, y.3)

at_in : (t : RegInfo) (f : Function) (l : List Remat) (i : ℕ) → i < length l → In l (remat_at t f l i).dest (remat_at t f l i).value
at_in t f [] i h = absurd (omega arith)
at_in t f (r ∷ l) zero h = inl (refl, refl)
at_in t f (r ∷ l) (suc i) h = inr (at_in t f l i (omega arith))

in_split : (l m : List Remat) (q : Place) (x : ℕ) → In (l ++ m) q x → In l q x ⊎ In m q x
in_split [] m q x h = inr h
in_split (r ∷ l) m q x (inl h) = inl (inl h)
in_split (r ∷ l) m q x (inr h) = ⊎_elim (λ y. inl (inr y)) (λ y. inr y) (in_split l m q x h)

in_left : (l m : List Remat) (q : Place) (x : ℕ) → In l q x → In (l ++ m) q x
in_left [] m q x x3 = elim x3 [ ]
in_left (r ∷ l) m q x (inl h) = inl h
in_left (r ∷ l) m q x (inr h) = inr (in_left l m q x h)

in_right : (l m : List Remat) (q : Place) (x : ℕ) → In m q x → In (l ++ m) q x
in_right [] m q x h = h
in_right (r ∷ l) m q x h = inr (in_right l m q x h)

module _ (t : RegInfo) (f : Function) (ta : target.Accepted t) (fa : function.Accepted t f) where
  target_ok : TargetOk t
  target_ok =
      record {
        twice = λ r. once-distinct (reg_units t r) (reg-once t f ta r);
        low = λ r s. no_of (has (512 + s) (reg_units t r)) (reg-low t f ta r s);
        own = λ r m. yes_of _ (reg-own t f ta r (of-yes _ m));
        kinds = λ x r u m n h k. reg-kinds t f ta x r u (of-yes _ m) (of-no _ n) (of-yes _ h) (of-yes _ k);
      }

  apart_of : (p q : Place) → Disjoint t f p q → Apart t f target_ok p q
  apart_of p q d u a b = d u (of-yes _ (place-covers t f target_ok p u a)) (of-yes _ (place-covers t f target_ok q u b))

  -- a register's unit is no slot's
  below : (r u : ℕ) → T (has_in (reg_units t r) u) → u < 512
  below r u h = go (dec_lt u 512)
    where
      high : (512 ≤ u) → (s : ℕ) × (u ≡ 512 + s)
      high l = up 512 u l
        where
          up : (a b : ℕ) → a ≤ b → (s : ℕ) × (b ≡ a + s)
          up zero b l = (b, omega arith)
          up (suc a) zero l = absurd (omega arith)
          up (suc a) (suc b) l = let y = up a b (omega arith) in (y.0, omega (arith, y.1))

      go : Dec (u < 512) → u < 512
      go (yes l) = l
      go (no n) = let y = high (omega arith) in absurd (T_not (has_in (reg_units t r) (512 + y.0)) (target_ok.low r y.0) (subst (λ (z : ℕ). T (has_in (reg_units t r) z)) y.1 h))

  -- the last of a class without slots is a member
  last-member : (c : ℕ) → c < num_classes t → includes_spillslots t c ≡ false → has (last_in_order t c) (class_members t c) ≡ true
  last-member c hc e = order-member t ta c (last_in_order t c) hc (last-ordered t ta c hc e)

  -- a class of the value's bank takes the value's content
  module _ (content : ℕ → List ℕ) (whole : Contents t f content) where
    module _ (j : Job) (same : (v : ℕ) → j.content v ≡ content v) (em : (s : ℕ) → f.slots ≤ s → j.may (512 + s)) where
      class-ok : (c v : ℕ) → c < num_classes t → v < num_values f → bank_for_class t c ≡ value_bank f v → ClassOk t f target_ok j em c (length (j.content v))
      class-ok c v hc hv e =
          rw (same v)
          (record {
            len = λ r h. yes_of _ (member-holds t f content whole ta v c r hv hc e (of-yes _ h));
            ordered = λ r h. yes_of _ (order-member t ta c r hc (of-yes _ h));
            last-in = λ ns. yes_of _ (last-member c hc (of-no _ ns));
            last-plain = λ ns. no_of _ (last-memory t ta c hc (of-no _ ns));
            last-unit = λ ns. (get_or (reg_units t (last_in_order t c)) 0 0, yes_of _ (member-unit t f ta c (last_in_order t c) hc (last-member c hc (of-no _ ns))));
          })

      stack-ok : (b v : ℕ) → b ≡ value_bank f v → v < num_values f → StackOk t f target_ok j em b (length (j.content v))
      stack-ok b v e hv =
          let hb : b < num_banks t = rw e (bank-there t f fa v hv) in
          record {
            ok = class-ok (stack_to_stack_class t b) v (stack-fits t ta b hb) hv (stack-bank t ta b hb ∙ e);
            no-slots = no_of _ (stack-slots t ta b hb);
            plain = λ r h. no_of _ (stack-memory t ta b hb r (of-yes _ h));
          }

  module _ (content : ℕ → List ℕ) (whole : Contents t f content) (p : Patch) (room : ℕ) (c c' : Cache) (es : List Edit) (ran : Ran t f p room c es c') where
    abbrev a : Sorted
    a = sorted t f p

    abbrev ms : List KeptMove
    ms = a.moves

    abbrev ps : List Remat
    ps = a.remats

    abbrev ss : List Remat
    ss = a.remats_with_scratch

    so : SortedOk t f a
    so = ran.ok

    -- a destination's, free, or an emergency slot
    abbrev is_dest_unit : ℕ → Bool
    is_dest_unit u = any_in (λ d. has u (units_of_reg t f d)) (destinations a)

    abbrev is_dest_slot : ℕ → Bool
    is_dest_slot s = any_in (same_place (slot s)) (destinations a)

    abbrev May : ℕ → Type 0
    May u = ((u < 512) × (T (is_dest_unit u) ⊎ T (has u p.free))) ⊎ ((s : ℕ) × (u ≡ 512 + s) × ((f.slots ≤ s) ⊎ T (is_dest_slot s)))

    abbrev Kept : Place → ℕ → Type 0
    Kept q x = (i : ℕ) × (i < length ms) × (q ≡ dest t f ms i) × (x ≡ value t f ms i)

    abbrev job : Job
    job =
        record {
          content = content;
          may = May;
          tracked = λ v. (i : ℕ) × (i < length ms) × (value t f ms i ≡ v);
          home = λ q v. OfValue t f p content q v;
          final = λ q v. Kept q v ⊎ In (ps ++ ss) q v;
        }

    em : (s : ℕ) → f.slots ≤ s → May (512 + s)
    em s h = inr (s, refl, inl h)

    -- a destination may change
    dest-may : (d : Place) → ((q : Place → Bool) → q d ≡ true → any_in q (destinations a) ≡ true) → Within t f target_ok job (covers t f target_ok d)
    unfolding covers
    dest-may (reg r) pass u h = inl (below r u h, inl (yes_of _ (pass (λ d. has u (units_of_reg t f d)) (of-yes _ h))))
    dest-may (slot s) pass u h = inr (s, eqb→eq u (512 + s) h, inr (yes_of _ (pass (same_place (slot s)) (of-yes _ (eqb_refl s)))))

    moves-ok : PatchOk t f target_ok job em ms
    moves-ok =
        record {
          apart = λ i k il kl d. apart_of (dest t f ms i) (dest t f ms k) (dest-disjoint t f a so i k il kl d);
          writes = λ i k il kl u x y. yes_of _ (writes t f a so i k u kl (of-yes _ (place-covers t f target_ok (source t f ms i) u x)) (of-yes _ (place-covers t f target_ok (dest t f ms k) u y)));
          written = λ i k h. written t f ms i k (of-yes _ h);
          visited = λ i k h. yes_of _ (has-reverse k _ ∙ of-yes _ h);
          visit-low = λ i k h. written t f ms i k (sym (has-reverse k _) ∙ of-yes _ h);
          valued = λ i il. (so.moves i il).value-named;
          len = λ i il. yes_of _ (dest-fits t f content whole a so i il);
          inside = λ i il. dest-may (dest t f ms i) (λ q. kept-passes t f a q i il);
          src-real = λ i s il h. apart_of (source t f ms i) (slot s) (beyond t f ta (source t f ms i) s (so.moves i il).source-named h);
          dst-real = λ i s il h. apart_of (dest t f ms i) (slot s) (beyond t f ta (dest t f ms i) s (so.moves i il).dest-named h);
          stack = λ v hv. stack-ok content whole job (λ v. refl) em (value_bank f v) v refl hv;
          top-ok = λ v hv. class-ok content whole job (λ v. refl) em (top_level_class t (value_bank f v)) v (top-fits t ta (value_bank f v) (bank-there t f fa v hv)) hv (top-bank t ta (value_bank f v) (bank-there t f fa v hv));
          top-slots = λ v hv. yes_of _ (top-slots t ta (value_bank f v) (bank-there t f fa v hv));
          barred = λ m u ml h. yes_of _ (barred t f ms m u ml (of-yes _ h));
          tracked = λ v h. h;
        }

    -- the rebuilds from the one at n on
    entry-ok : (d : Bool) (r : Remat) (rest : List Remat) → RematOk t f d r → ((i : ℕ) → i < length ms → overlap t (dest t f ms i) r.dest ≡ false)
        → ((q : Place) (x : ℕ) → In rest q x → overlap t r.dest q ≡ false) → fits t f r.dest (length (content r.value)) ≡ true
        → ((q : Place → Bool) → q r.dest ≡ true → any_in q (destinations a) ≡ true) → EntryOk t f target_ok job em ms moves-ok r rest
    entry-ok d r rest o k x w pass =
        record {
          kept-apart = λ i il. apart_of (dest t f ms i) r.dest (disjoint t f (dest t f ms i) r.dest (k i il));
          rest-apart = λ q y h. apart_of q r.dest (disjoint_comm t f r.dest q (disjoint t f r.dest q (x q y h)));
          len = yes_of _ w;
          inside = dest-may r.dest pass;
        }

    abbrev From : List Remat → ℕ → List Remat → Type 0
    From all n l = (n + length l ≡ length all) × ((i : ℕ) → remat_at t f l i ≡ remat_at t f all (n + i))

    from_tail : (all : List Remat) (n : ℕ) (r : Remat) (l : List Remat) → From all n (r ∷ l) → From all (suc n) l
    from_tail all n r l h = (omega (arith, h.0), λ i. h.1 (suc i) ∙ ap (remat_at t f all) (omega arith))

    from-head : (all : List Remat) (n : ℕ) (r : Remat) (l : List Remat) → From all n (r ∷ l) → (r ≡ remat_at t f all n) × (n < length all)
    from-head all n r l h = (h.1 0 ∙ ap (remat_at t f all) (omega arith), omega (arith, h.0))

    plains : (n : ℕ) (l : List Remat) → From ps n l → PlainsOk t f target_ok job em ms moves-ok l ss
    plains n [] h = tt
    plains n (r ∷ l) h =
        let e = from-head ps n r l h in
        let o : RematOk t f true r = rw e.0 (so.remats n e.1) in (
          entry-ok true r (l ++ ss) o (λ i il. rw e.0 (dest-remat t f a so i n il e.1))
              (λ q x y. ⊎_elim
              (λ z. let w = in-at t f l q x z in
              let b : w.0 < length l = w.1 in
              rw (w.2, (from_tail ps n r l h).1 w.0, e.0) (remat-remat t f a so n (suc n + w.0) e.1 (omega (arith, h.0)) (λ i. omega arith)))
              (λ z. let w = in-at t f ss q x z in rw (w.2, e.0) (remat-scratch t f a so n w.0 e.1 w.1)) (in_split l ss q x y))
              (rw e.0 (remat-fits t f content whole a so n e.1)) (λ q. rw e.0 (remat-passes t f a q n e.1)),
          yes_of _ (both_true _ _ o.can o.in-class),
          plains (suc n) l (from_tail ps n r l h),
        )
      where
        both_true : (x y : Bool) → x ≡ true → y ≡ true → (x && y) ≡ true
        both_true true y p q = q
        both_true false y p q = absurd (let z : ◌≡◌ {A = ℕ} 0 1 = cc in omega arith)

    scratches : (n : ℕ) (l : List Remat) → From ss n l → ScratchesOk t f target_ok job em ms moves-ok l
    scratches n [] h = tt
    scratches n (r ∷ l) h =
        let e = from-head ss n r l h in
        let o : RematOk t f false r = rw e.0 (so.remats_with_scratch n e.1) in
        let hb : bank_for_class t (remat_class f r.value) ≡ value_bank f r.value = remat-bank t f fa false r o in (
          entry-ok false r l o (λ i il. rw e.0 (dest-scratch t f a so i n il e.1))
              (λ q x z. let w = in-at t f l q x z in
              let b : w.0 < length l = w.1 in
              rw (w.2, (from_tail ss n r l h).1 w.0, e.0) (scratch-scratch t f a so n (suc n + w.0) e.1 (omega (arith, h.0)) (λ i. omega arith)))
              (rw e.0 (scratch-fits t f content whole a so n e.1)) (λ q. rw e.0 (scratch-passes t f a q n e.1)),
          record {
            ok = class-ok content whole job (λ v. refl) em (remat_class f r.value) r.value (remat-class t f fa false r o) o.value-named hb;
            can-reg = λ x m. both (can_rematerialize f r.value) (has x _) (yes_of _ o.can) m;
            can-slot = λ m s. both (can_rematerialize f r.value) (includes_spillslots t (remat_class f r.value)) (yes_of _ o.can) m;
            far = λ ns. apart_of r.dest (reg (last_in_order t (remat_class f r.value))) (disjoint t f r.dest (reg (last_in_order t (remat_class f r.value))) (far n r e.0 e.1 (of-no _ ns)));
          },
          stack-ok content whole job (λ v. refl) em (bank_for_class t (remat_class f r.value)) r.value hb o.value-named,
          scratches (suc n) l (from_tail ss n r l h),
        )
      where
        far : (n : ℕ) (r : Remat) → r ≡ remat_at t f ss n → n < length ss → includes_spillslots t (remat_class f r.value) ≡ false → overlap t r.dest (reg (last_in_order t (remat_class f r.value))) ≡ false
        far n r e h = rw e (last_apart t f a ran.last n h)

    -- where a need of the start stands
    needed : (q : Place) (x : ℕ) → NeedR t f target_ok job em ms moves-ok (ps ++ ss) q x
        → ((i : ℕ) × (i < length ms) × (q ≡ dest t f ms i)) ⊎ (((i : ℕ) × (i < length ps) × (q ≡ (remat_at t f ps i).dest)) ⊎ ((i : ℕ) × (i < length ss) × (q ≡ (remat_at t f ss i).dest)))
    needed q x (inl h) = inl (h.0, h.1, h.2)
    needed q x (inr h) =
        ⊎_elim (λ y. let z = in-at t f ps q x y in inr (inl (z.0, z.1, z.2))) (λ y. let z = in-at t f ss q x y in inr (inr (z.0, z.1, z.2))) (in_split ps ss q x h)

    home : (i : ℕ) → i < length ms → OfValue t f p content (source t f ms i) (value t f ms i)
    home i il = (i, il, refl, inl refl)

    begun : PatchStart t f target_ok job em ms moves-ok home ps ss p.free
    begun =
        record {
          free-may = λ r u y h. inl (below r u y, inr h);
          free-dst = λ x r u n y h.
              let z : has u p.free ≡ false =
              ⊎_elim (λ w. free-kept t f a p ran.free w.0 w.1 u (rw (← w.2) (of-yes _ y)))
              (⊎_elim (λ w. free-remat t f a p ran.free w.0 w.1 u (rw (← w.2) (of-yes _ y))) (λ w. free-scratch t f a p ran.free w.0 w.1 u (rw (← w.2) (of-yes _ y)))) (needed (reg r) x n) in
              never (has u p.free) z h;
          real = λ q x s n h.
              ⊎_elim (λ w. rw w.2 (moves-ok.dst-real w.0 s w.1 h))
              (⊎_elim (λ w. rw w.2 (apart_of (remat_at t f ps w.0).dest (slot s) (beyond t f ta (remat_at t f ps w.0).dest s (so.remats w.0 w.1).dest-named h)))
              (λ w. rw w.2 (apart_of (remat_at t f ss w.0).dest (slot s) (beyond t f ta (remat_at t f ss w.0).dest s (so.remats_with_scratch w.0 w.1).dest-named h)))) (needed q x n);
          final = λ q v h. h;
          plains = plains 0 ps (omega arith, λ i. ap (remat_at t f ps) (omega arith));
          scratches = scratches 0 ss (omega arith, λ i. ap (remat_at t f ss) (omega arith));
        }

    done : CacheOk t f c → Done t f target_ok job em ms moves-ok home ps ss p.free ran.allocator
    unfolding run
    done co = subst (All (Done t f target_ok job em ms moves-ok home ps ss p.free)) ran.ran (whole-ok t f target_ok job em ms moves-ok home ps ss p.free c co begun)

    stopped : (start : Memory) (s : Machine) → Stop t f job start s → Stopped t f p content start s
    stopped start s h =
        record {
          units = λ u l nd nf.
              let off : May u → ⊥ = ⊎_elim (λ m. ⊎_elim (never (is_dest_unit u) (dests-are t f p _ ∙ nd)) (never (has u p.free) nf) m.1) (λ m. let e : u ≡ 512 + m.0 = m.1 in omega arith) in
              (sym (h.frame.words u off), sym (h.frame.lists u off));
          slots = λ x l nd. sym (h.frame.lists (512 + x) (⊎_elim (λ m. let b : 512 + x < 512 = m.0 in omega arith) (other x l (dests-are t f p _ ∙ nd))));
          survives = λ i il. let y = h.lives (value t f ms i) (i, il, refl) in (y.0, y.1.1, y.1.0);
        }
      where
        other : (x : ℕ) → x < f.slots → is_dest_slot x ≡ false → (y : ℕ) × (512 + x ≡ 512 + y) × ((f.slots ≤ y) ⊎ T (is_dest_slot y)) → ⊥
        other x l nd m =
            let e : x ≡ m.0 = add_left_cancel 512 m.1 in
            ⊎_elim (λ b. omega arith) (λ d. never (is_dest_slot x) nd (subst (λ (z : ℕ). T (is_dest_slot z)) (sym e) d)) m.2

    finished : (s : Machine) → Final t f job s → Finished t f p content s
    finished s h = record { entries = λ e m. h.placed (entry_dest e) (entry_value e) (placed e (entry-ends t f p e m)); none-waits = h.none-waits }
      where
        placed : (e : Entry) → Became t f p e → Kept (entry_dest e) (entry_value e) ⊎ In (ps ++ ss) (entry_dest e) (entry_value e)
        placed e (inl w) = inl w
        placed e (inr (inl w)) = inr (in_left ps ss _ _ (rw (w.2, w.3) (at_in t f ps w.0 w.1)))
        placed e (inr (inr w)) = inr (in_right ps ss _ _ (rw (w.2, w.3) (at_in t f ss w.0 w.1)))

    right : CacheOk t f c → Right t f p content es
    right co start hold =
        let every = (done co).every start hold in
        rw ran.edits
        (record {
          stops = λ k. let y = stops t f job ran.allocator.edits start _ every k in (y.0, y.1, stopped start y.0 y.2);
          ends = let y = ends t f job ran.allocator.edits start _ every in (y.0, y.1, finished y.0 y.2);
        })

    keeps : CacheOk t f c → Keeps t f p content es
    keeps co start hold k s e =
        let y = stops t f job ran.allocator.edits start _ ((done co).every start hold) k in
        let z : y.0 ≡ s = let a : steps t f content (take k ran.allocator.edits) (begin start) ≡ some s = rw ran.edits at e in let b = y.1 in cc in
        subst Saved z y.2.saved

  -- a value's width is that of the last register of its bank's stack class
  pub width : ℕ → ℕ
  width v = length (reg_units t (last_in_order t (stack_to_stack_class t (value_bank f v))))

  pub so-wide : (content : ℕ → List ℕ) → ((v : ℕ) → v < num_values f → length (content v) ≡ width v) → Contents t f content
  unfolding width
  so-wide content w v r hv hr n e =
      let hb = bank-there t f fa v hv in
      let c : ℕ = stack_to_stack_class t (value_bank f v) in
      let hc = stack-fits t ta (value_bank f v) hb in
      let ns = stack-slots t ta (value_bank f v) hb in
      let m = order-member t ta c (last_in_order t c) hc (last-ordered t ta c hc ns) in
      w v hv ∙ same_width t ta (last_in_order t c) r (member-fits t ta c hc _ m) hr (last-memory t ta c hc ns) n (member-bank t ta c _ hc m ∙ stack-bank t ta (value_bank f v) hb ∙ sym e)

  zeros : ℕ → List ℕ
  zeros v = replicate (width v) 0

  zeros-whole : Contents t f zeros
  unfolding zeros
  zeros-whole = so-wide zeros (λ v h. length-replicate (width v) 0)

  pub cache-fresh : CacheOk t f empty_cache
  unfolding has distinct
  cache-fresh = record { once = λ z. tt; sole = λ x y s h. absurd h; low = λ z s h. absurd h; made = λ z s h. absurd h }

  -- one call: its answer is right, and the cache that it leaves is one to go on with
  pub called : (x : Call) (c : Cache) → CacheOk t f c → (r : Answer) → resolve t f x.patch x.room c ≡ r → Answered t f x.patch r × CacheOk t f (cache_after c r)
  called x c co (refused n) e = (tt, co)
  called x c co (resolved es c' n) e =
      let ran = accepted t f x.patch x.room c c' es n e in (
        record { right = λ content whole. right content whole x.patch x.room c c' es ran co; few = bound-ok t f ta fa x.patch x.room c c' es ran; saved = λ content whole. keeps content whole x.patch x.room c c' es ran co },
        rw ran.cache (done zeros zeros-whole x.patch x.room c c' es ran co).cache-ok,
      )

  -- a request: what stands in the list is refused with 20, or such a call
  pub requested : (x : Request) (s : Served) → Previews t f s → CacheOk t f s.now.cache → (o : Option Standing) → standing t f x s ≡ o → Owed t f o × CacheOk t f (stamped_by s.now o).cache
  requested x s k co none e = (tt, co)
  requested x s k co (some y) e = ⊎_elim (λ h. rw h (tt, co)) (λ h. called (record { patch = y.patch; room = h.0 }) s.now.cache co y.answer h.1) (stands t f x s k y e)

  claim : (requests : List Request) (s : Served) → Previews t f s → CacheOk t f s.now.cache → RequestsClaim t f requests s
  claim [] s k co = tt
  claim (x ∷ l) s k co = let y = requested x s k co (standing t f x s) refl in (y.0, claim l (after t f x s) (previews-after t f x s k) y.1)

pub demand-3 : Demand3
demand-3 t f ta fa requests = claim t f ta fa requests fresh (previews-fresh t f) (cache-fresh t f ta fa)

-- of `resolve` calls alone
claim-of-calls : (t : RegInfo) (f : Function) (calls : List Call) (s : Served) → RequestsClaim t f (map request calls) s → Claim t f calls s.now.cache
unfolding standing
claim-of-calls t f [] s h = tt
claim-of-calls t f (x ∷ l) s h = (h.0, claim-of-calls t f l (after t f (request x) s) h.1)

pub demand-3-of-calls : (t : RegInfo) (f : Function) → target.Accepted t → function.Accepted t f → (calls : List Call) → Claim t f calls empty_cache
demand-3-of-calls t f ta fa calls = claim-of-calls t f calls fresh (demand-3 t f ta fa (map request calls))

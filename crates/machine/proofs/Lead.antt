-- A move is emitted and closed: from its source, from the scratch place of a diversion that lives, or of one that begins.
use mathlib.Core.Path.{◌≡◌, refl, sym, ◌∙◌, subst}
use mathlib.Core.Bool.{Bool, true, false, not, ◌||◌}
use mathlib.Core.List.{List, [], ◌∷◌}
use mathlib.Core.Logic.{◌⊎◌, inl, inr, ⊎_elim}
use Prim.Native.Nat.{ℕ, zero, suc, ◌+◌, ◌≤◌, ◌<◌}
use native.Mathlib.Omega.{arith}
use lib.Dec.{T, T_not, eqb, eqb→eq}
use lib.ListN.{length}
use Rattle.entity.specs.Logic.{any_in}
use Rattle.entity.specs.Place.{Place}
use Rattle.reginfo.specs.RegInfo.{RegInfo, top_level_class}
use Rattle.function.specs.Function.{Function, value_bank}
use Rattle.rules.specs.Edit.{updated}
use Rattle.rules.specs.Scratch.{ScratchAllocator, Found, make_unavailable, get_scratch_reg, do_move}
use Rattle.rules.specs.Order.{KeptMove, State, New, Pending, Done, is_new, is_pending, Diverted, ParallelMoves, with_allocator, with_state, carry, source, dest, value, writers, cycle_move_sources, emit, noted, divert, carried, lead}
use Rattle.rules.proofs.Steps.{All, all_then, same?, updated-at, updated-same, updated-other}
use Rattle.machine.proofs.Tests.{has_in, has-head, has-tail, any-not, if}
use Rattle.machine.proofs.Memory.{TargetOk}
use Rattle.machine.proofs.Run.{Job}
use Rattle.machine.proofs.Sound.{Needs}
use Rattle.machine.proofs.Search.{Empty, Kept, FoundOk, search-ok}
use Rattle.machine.proofs.Tally.{tally, tally-pos}
use Rattle.machine.proofs.Carry.{Grown, mark-ok}
use Rattle.machine.proofs.Order as order
use Rattle.machine.proofs.Order.{is_done, Lv, PatchOk, empty-above, Shift, emit-shift, live_map, Home, Inv, rider-need, apart-dst, inv-grow, inv-swap, Rest}
use Rattle.machine.proofs.Divert.{sc-real, install}

not_done : (st : ℕ → State) (i k : ℕ) → T (not (is_done (updated i Done st k))) → (k ≡ i → ⊥) × T (not (is_done (st k)))
not_done st i k = updated-at (λ y. T (not (is_done y)) → (k ≡ i → ⊥) × T (not (is_done (st k)))) i Done st k (λ _ h. absurd h) (λ d h. (d, h))

was-done : (st : ℕ → State) (i k : ℕ) → T (is_done (updated i Done st k)) → (k ≡ i) ⊎ T (is_done (st k))
was-done st i k = updated-at (λ y. T (is_done y) → (k ≡ i) ⊎ T (is_done (st k))) i Done st k (λ e _. inl e) (λ _ h. inr h)

still-done : (st : ℕ → State) (i k : ℕ) → T (is_done (st k)) → T (is_done (updated i Done st k))
still-done st i k h = updated-at (λ y. T (is_done y)) i Done st k (λ _. tt) (λ _. h)

any-find : (f : ℕ → Bool) (ks : List ℕ) → T (any_in f ks) → (k : ℕ) × T (has_in ks k) × T (f k)
unfolding any_in
any-find f [] h = absurd h
any-find f (k ∷ ks) h = go (f k) (λ x. x) h (λ y. any-find f ks y)
  where
    go : (b : Bool) → (T b → T (f k)) → T (b || any_in f ks) → (T (any_in f ks) → (x : ℕ) × T (has_in ks x) × T (f x)) → (x : ℕ) × T (has_in (k ∷ ks) x) × T (f x)
    go true y h r = (k, has-head ks k, y tt)
    go false y h r = let z = r h in (z.0, has-tail ks k z.0 z.1, z.2)

settled : (s : State) → T (not (is_new s)) → T (is_pending s) ⊎ T (is_done s)
settled New h = absurd h
settled Pending h = inl tt
settled Done h = inr tt

open-not-done : (s : State) → T (is_pending s) → T (not (is_done s))
open-not-done New h = absurd h
open-not-done Pending h = tt
open-not-done Done h = absurd h

module _ (t : RegInfo) (F : Function) (tk : TargetOk t) (j : Job) (em : (s : ℕ) → F.slots ≤ s → j.may (512 + s)) (ms : List KeptMove) (ok : PatchOk t F tk j em ms) where
  abbrev Needed : (ℕ → Place) → Needs
  Needed = order.Needed t F tk j em ms

  -- the move i is emitted and closed; b says if it rides
  module _ (L R : ℕ → Type 0) (w : ParallelMoves) (st : ℕ → State) (pl : ℕ → Place) (ride : ℕ → Bool) (inv : Inv t F tk j em ms ok L R w st pl ride) (i : ℕ) (il : i < length ms) (nd : T (not (is_done (w.state i)))) (from : Place) (b : Bool) where
    abbrev pl' : ℕ → Place
    pl' = updated i from pl

    abbrev ride' : ℕ → Bool
    ride' = updated i b ride

    shift : Shift t F tk j em ms ok pl pl' (dest t F ms i) from (value t F ms i)
    shift =
        record {
          who = (i, il, (inv.here i il nd).0, refl, updated-same i from pl);
          each = λ k kl.
              ⊎_elim
              (λ e. inl (subst (λ (z : ℕ). (pl z ≡ dest t F ms i) × (value t F ms z ≡ value t F ms i) × (pl' z ≡ from)) (sym e) ((inv.here i il nd).0, refl, updated-same i from pl)))
              (λ d. inr (updated-other i from pl k d, apart-dst t F tk j em ms ok L R w st pl ride inv i il nd k kl d)) (same? k i);
        }

    abbrev after : ScratchAllocator → ParallelMoves
    after k = record { allocator = k; state = updated i Done w.state; alloc = w.alloc; scratch = w.scratch; diverted = w.diverted }

    closed : (k : ScratchAllocator) (R' : ℕ → Type 0) → Kept t F tk j em (Needed pl') k
        → (T b × L (value t F ms i) × (from ≡ w.scratch (value t F ms i))) ⊎ (T (not b) × Home t F tk j em ms ok (after k) pl' i)
        → ((v : ℕ) → R' v → R v ⊎ (T b × (value t F ms i ≡ v)))
        → ((x : ℕ) → T (is_done (st x)) → T (is_done (updated i Done w.state x)))
        → Inv t F tk j em ms ok L R' (after k) (updated i Done w.state) pl' ride'
    closed k R' kp settle rr dn =
        record {
          kept = kp;
          here = λ x xl n.
              let d = not_done w.state i x n in
              (updated-other i from pl x d.0 ∙ (inv.here x xl d.1).0, subst (λ (y : Bool). T (not y)) (sym (updated-other i b ride x d.0)) (inv.here x xl d.1).1);
          gone = λ x xl h. ⊎_elim (λ e. subst G (sym e) own) (other x xl) (was-done w.state i x h);
          lives = λ v l. live_map t F tk j em ms ok w (after k) st (updated i Done w.state) v refl refl (λ x. ⊎_elim (λ c. inl c) (λ c. inr (dn x c))) (λ x n. (not_done w.state i x n).1) (inv.lives v l);
          riders = λ v r.
              ⊎_elim
              (λ q.
              let y = inv.riders v q in
              (y.0, y.1, still-done w.state i y.0 y.2, subst T (sym (updated-other i b ride y.0 (apart-i y.0 y.2))) y.3, y.4))
              (λ q. (i, il, subst (λ (z : State). T (is_done z)) (sym (updated-same i Done w.state)) tt, subst T (sym (updated-same i b ride)) q.0, q.1)) (rr v r);
          apart_s = inv.apart_s;
        }
      where
        G : ℕ → Type 0
        G x = (T (ride' x) × L (value t F ms x) × (pl' x ≡ w.scratch (value t F ms x))) ⊎ (T (not (ride' x)) × Home t F tk j em ms ok (after k) pl' x)

        own : G i
        own =
            ⊎_elim (λ s. inl (subst T (sym (updated-same i b ride)) s.0, s.1, updated-same i from pl ∙ s.2))
            (λ s. inr (subst (λ (y : Bool). T (not y)) (sym (updated-same i b ride)) s.0, s.1)) settle

        apart-i : (x : ℕ) → T (is_done (w.state x)) → x ≡ i → ⊥
        apart-i x hd e = T_not (is_done (w.state i)) nd (subst (λ (z : ℕ). T (is_done (w.state z))) e hd)

        other : (x : ℕ) → x < length ms → T (is_done (w.state x)) → G x
        other x xl hd =
            let d : x ≡ i → ⊥ = apart-i x hd in
            ⊎_elim (λ r. inl (subst T (sym (updated-other i b ride x d)) r.0, r.1, updated-other i from pl x d ∙ r.2))
            (λ r.
            inr (
              subst (λ (y : Bool). T (not y)) (sym (updated-other i b ride x d)) r.0,
              record {
                of = r.1.of;
                of-in = r.1.of-in;
                at = updated-other i from pl x d ∙ r.1.at;
                val = r.1.val;
                over = λ y z. still-done w.state i y (r.1.over y z);
              },
            ))
            (inv.gone x xl hd)

  module _ (w : ParallelMoves) (rs : Rest t F tk j em ms ok (λ k. ⊥) w) (i : ℕ) (il : i < length ms) (op : T (is_pending (w.state i))) (vis : (k : ℕ) → T (has_in (writers t F ms i) k) → T (not (is_new (w.state k)))) where
    abbrev st' : ℕ → State
    st' = updated i Done w.state

    abbrev v₀ : ℕ
    v₀ = value t F ms i

    abbrev Led : ParallelMoves → Type 0
    Led w' = Rest t F tk j em ms ok (λ k. k ≡ i) w' × ((k : ℕ) → w'.state k ≡ st' k)

    nd₀ : T (not (is_done (w.state i)))
    nd₀ = open-not-done (w.state i) op

    vis' : (k : ℕ) → T (has_in (writers t F ms i) k) → T (is_pending (st' k)) ⊎ T (is_done (st' k))
    vis' k h = settled (st' k) (updated-at (λ y. T (not (is_new y))) i Done w.state k (λ _. tt) (λ _. vis k h))

    open-was : (k : ℕ) → T (is_pending (st' k)) → T (not (is_done (st' k)))
    open-was k h = open-not-done (st' k) h

    still₀ : (k v : ℕ) → T (has_in (w.diverted.values k) v) → (k ≡ i) ⊎ T (not (is_done (st' k)))
    still₀ k v h =
        ⊎_elim (λ e. inl e) (λ d. inr (subst (λ (z : State). T (not (is_done z))) (sym (updated-other i Done w.state k d)) (⊎_elim (λ y. absurd y) (λ y. y) (rs.still k v h)))) (same? k i)

    -- no writer is open: from the source
    plain-lead : T (not (any_in (λ k. is_pending (st' k)) (writers t F ms i))) → All Led (emit t F ms i (source t F ms i) (with_state i Done w))
    plain-lead no-open =
        all_then (λ k. Kept t F tk j em (Needed (updated i (source t F ms i) rs.pl)) k × ((s : ℕ) → Empty t F tk k s → Empty t F tk w.allocator s)) Led
        (do_move t F (value_bank F v₀) (dest t F ms i) (source t F ms i) v₀ w.allocator) _
        (emit-shift t F tk j em ms ok rs.pl (updated i (source t F ms i) rs.pl) (dest t F ms i) (source t F ms i) v₀ w.allocator (shift (Lv w) (Lv w) w w.state rs.pl rs.ride rs.inv i il nd₀ (source t F ms i) false)
        (ok.len i il) (ok.inside i il) (λ s e. ok.src-real i s il (empty-above t F tk j em ms ok (Needed rs.pl) w.allocator rs.inv.kept s e)) rs.inv.kept)
        next
      where
        over : (k : ℕ) → T (has_in (writers t F ms i) k) → T (is_done (st' k))
        over k h = ⊎_elim (λ o. absurd (any-not (λ k. is_pending (st' k)) (writers t F ms i) no-open k h o)) (λ d. d) (vis' k h)

        next : (k : ScratchAllocator) → Kept t F tk j em (Needed (updated i (source t F ms i) rs.pl)) k × ((s : ℕ) → Empty t F tk k s → Empty t F tk w.allocator s) → Led (with_allocator k (with_state i Done w))
        next k kp = (
          record {
            pl = updated i (source t F ms i) rs.pl;
            ride = updated i false rs.ride;
            inv =
                closed (Lv w) (Lv w) w w.state rs.pl rs.ride rs.inv i il nd₀ (source t F ms i) false k (Lv w) kp.0
                (inr (tt, record { of = i; of-in = il; at = updated-same i (source t F ms i) rs.pl; val = refl; over = over })) (λ v r. inl r) (still-done w.state i);
            tab = rs.tab;
            still = still₀;
          },
          λ x. refl,
        )

    -- the writers that are open carry the value
    tab' : Diverted
    tab' = carry v₀ st' (writers t F ms i) w.diverted

    w₁ : ParallelMoves
    w₁ = record { allocator = w.allocator; state = w.state; alloc = w.alloc; scratch = w.scratch; diverted = tab' }

    mk : Grown (length ms) v₀ st' w.diverted tab' × ((k : ℕ) → T (has_in (writers t F ms i) k) → T (is_pending (st' k)) → T (has_in (tab'.values k) v₀))
    unfolding tab'
    mk = mark-ok (length ms) v₀ st' (writers t F ms i) w.diverted (ok.written i) rs.tab

    inv₁ : Inv t F tk j em ms ok (Lv w) (Lv w) w₁ st' rs.pl rs.ride
    unfolding w₁
    inv₁ = inv-grow t F tk j em ms ok (Lv w) (Lv w) w w.state st' rs.pl rs.ride tab' (still-done w.state i) (λ k x h. inl (mk.0.more k x h)) rs.inv

    still₁ : (k v : ℕ) → T (has_in (tab'.values k) v) → (k ≡ i) ⊎ T (not (is_done (st' k)))
    still₁ k v h = ⊎_elim (still₀ k v) (λ o. inr (open-was k o)) (mk.0.only k v h)

    hd₁ : (k : ℕ) → T (has_in (writers t F ms i) k) → T (has_in (tab'.values k) v₀) ⊎ T (is_done (st' k))
    hd₁ k h = ⊎_elim (λ o. inl (mk.1 k h o)) (λ d. inr d) (vis' k h)

    count-up : T (any_in (λ k. is_pending (st' k)) (writers t F ms i)) → 0 < tab'.ref_count v₀
    count-up y =
        let z = any-find (λ k. is_pending (st' k)) (writers t F ms i) y in
        let p : 0 < tally (λ k. has_in (tab'.values k) v₀) (length ms) = tally-pos (λ k. has_in (tab'.values k) v₀) (length ms) z.0 (ok.written i z.0 z.1) (mk.1 z.0 z.1 z.2) in
        omega (arith, mk.0.ok.counts v₀)

    to-lv : (y : ℕ) → (y ≡ v₀ → ⊥) → Lv w y → 0 < tab'.ref_count y
    to-lv y d l = omega (arith, mk.0.others y d)

    from-lv : (y : ℕ) → (y ≡ v₀ → ⊥) → 0 < tab'.ref_count y → Lv w y
    from-lv y d l = omega (arith, mk.0.others y d)

    -- diverted before: from its scratch place
    old-lead : Lv w v₀ → All Led (emit t F ms i (w.scratch v₀) (carried t F ms i (with_state i Done w)))
    unfolding w₁ tab'
    old-lead l =
        all_then (λ k. Kept t F tk j em (Needed (updated i (w.scratch v₀) rs.pl)) k × ((s : ℕ) → Empty t F tk k s → Empty t F tk w.allocator s)) Led
        (do_move t F (value_bank F v₀) (dest t F ms i) (w.scratch v₀) v₀ w.allocator) _
        (emit-shift t F tk j em ms ok rs.pl (updated i (w.scratch v₀) rs.pl) (dest t F ms i) (w.scratch v₀) v₀ w.allocator (shift (Lv w) (Lv w) w₁ st' rs.pl rs.ride inv₁ i il nd₀ (w.scratch v₀) true)
        (ok.len i il) (ok.inside i il) (λ s e. rs.inv.kept.room.empty (w.scratch v₀) v₀ (rider-need t F tk j em ms ok (Lv w) (Lv w) w w.state rs.pl rs.ride rs.inv v₀ l) s e) rs.inv.kept)
        next
      where
        next : (k : ScratchAllocator) → Kept t F tk j em (Needed (updated i (w.scratch v₀) rs.pl)) k × ((s : ℕ) → Empty t F tk k s → Empty t F tk w.allocator s)
            → Led (with_allocator k (carried t F ms i (with_state i Done w)))
        next k kp = (
          record {
            pl = updated i (w.scratch v₀) rs.pl;
            ride = updated i true rs.ride;
            inv =
                inv-swap t F tk j em ms ok (Lv w) (Lv w) (λ y. 0 < tab'.ref_count y) (λ y. 0 < tab'.ref_count y) (after (Lv w) (Lv w) w₁ st' rs.pl rs.ride inv₁ i il nd₀ (w.scratch v₀) true k) st'
                (updated i (w.scratch v₀) rs.pl) (updated i true rs.ride) up down down
                (closed (Lv w) (Lv w) w₁ st' rs.pl rs.ride inv₁ i il nd₀ (w.scratch v₀) true k (Lv w) kp.0 (inl (tt, l, refl)) (λ v r. inl r) (λ x h. h));
            tab = mk.0.ok;
            still = still₁;
          },
          λ x. refl,
        )
          where
            up : (y : ℕ) → Lv w y → 0 < tab'.ref_count y
            up y h = ⊎_elim (λ e. subst (λ (z : ℕ). 0 < tab'.ref_count z) (sym e) (omega (arith, mk.0.up))) (λ d. to-lv y d h) (same? y v₀)

            down : (y : ℕ) → 0 < tab'.ref_count y → Lv w y
            down y h = ⊎_elim (λ e. subst (Lv w) (sym e) l) (λ d. from-lv y d h) (same? y v₀)

    -- diverted now
    new-lead : T (any_in (λ k. is_pending (st' k)) (writers t F ms i)) → (Lv w v₀ → ⊥) → All Led (divert t F ms i (carried t F ms i (with_state i Done w)))
    unfolding divert w₁ tab'
    new-lead y nl =
        all_then (FoundOk t F tk j em (Needed rs.pl) (value_bank F v₀) (top_level_class t (value_bank F v₀)) (length (j.content v₀)) (cycle_move_sources t F ms) (ok.top-ok v₀ (ok.valued i il)) w.allocator) Led
        (get_scratch_reg t F (value_bank F v₀) (top_level_class t (value_bank F v₀)) (cycle_move_sources t F ms) w.allocator) _
        (search-ok t F tk j em (Needed rs.pl) (value_bank F v₀) (top_level_class t (value_bank F v₀)) (length (j.content v₀)) (cycle_move_sources t F ms) (ok.top-ok v₀ (ok.valued i il)) w.allocator rs.inv.kept) found
      where
        found : (x : Found) → FoundOk t F tk j em (Needed rs.pl) (value_bank F v₀) (top_level_class t (value_bank F v₀)) (length (j.content v₀)) (cycle_move_sources t F ms) (ok.top-ok v₀ (ok.valued i il)) w.allocator x
            → All Led (emit t F ms i x.place (noted t F ms i x (carried t F ms i (with_state i Done w))))
        found x f =
            all_then (λ k. Kept t F tk j em (Needed (updated i x.place rs.pl)) k × ((s : ℕ) → Empty t F tk k s → Empty t F tk (make_unavailable t F x.place x.scratch) s)) Led
            (do_move t F (value_bank F v₀) (dest t F ms i) x.place v₀ (make_unavailable t F x.place x.scratch)) _
            (emit-shift t F tk j em ms ok rs.pl (updated i x.place rs.pl) (dest t F ms i) x.place v₀ (make_unavailable t F x.place x.scratch) (shift L² (Lv w) w₂ st' rs.pl rs.ride inv₂ i il nd₀ x.place true)
            (ok.len i il) (ok.inside i il) (sc-real t F tk j em ms ok (Lv w) w₁ st' rs.pl rs.ride inv₁ i il x f) inv₂.kept)
            next
          where
            w₂ : ParallelMoves
            w₂ = noted t F ms i x w₁

            L² : ℕ → Type 0
            L² z = Lv w z ⊎ (z ≡ v₀)

            inv₂ : Inv t F tk j em ms ok L² (Lv w) w₂ st' rs.pl rs.ride
            inv₂ = install t F tk j em ms ok (Lv w) w₁ st' rs.pl rs.ride inv₁ i il x f nl hd₁

            up : (z : ℕ) → L² z → 0 < tab'.ref_count z
            up z (inl h) = to-lv z (λ e. nl (subst (Lv w) e h)) h
            up z (inr e) = subst (λ (q : ℕ). 0 < tab'.ref_count q) (sym e) (count-up y)

            down : (z : ℕ) → 0 < tab'.ref_count z → L² z
            down z h = ⊎_elim (λ e. inr e) (λ d. inl (from-lv z d h)) (same? z v₀)

            next : (k : ScratchAllocator) → Kept t F tk j em (Needed (updated i x.place rs.pl)) k × ((s : ℕ) → Empty t F tk k s → Empty t F tk (make_unavailable t F x.place x.scratch) s)
                → Led (with_allocator k (noted t F ms i x (carried t F ms i (with_state i Done w))))
            next k kp = (
              record {
                pl = updated i x.place rs.pl;
                ride = updated i true rs.ride;
                inv =
                    inv-swap t F tk j em ms ok L² L² (λ z. 0 < tab'.ref_count z) (λ z. 0 < tab'.ref_count z) (after L² (Lv w) w₂ st' rs.pl rs.ride inv₂ i il nd₀ x.place true k) st'
                    (updated i x.place rs.pl) (updated i true rs.ride) up down down
                    (closed L² (Lv w) w₂ st' rs.pl rs.ride inv₂ i il nd₀ x.place true k L² kp.0
                    (inl (tt, inr refl, sym (updated-same v₀ x.place w.scratch))) (λ z. ⊎_elim (λ h. inl h) (λ e. inr (tt, sym e))) (λ z h. h));
                tab = mk.0.ok;
                still = still₁;
              },
              λ z. refl,
            )

    pub lead-ok : All Led (lead t F ms i (with_state i Done w))
    unfolding lead
    lead-ok =
        if (All Led) (any_in (λ k. is_pending (st' k)) (writers t F ms i)) _ _
        (λ y. if (All Led) (eqb (w.diverted.ref_count v₀) 0) _ _ (λ z. new-lead y (λ h. let e : w.diverted.ref_count v₀ ≡ 0 = eqb→eq (w.diverted.ref_count v₀) 0 z in omega arith))
        (λ z. old-lead (pos (w.diverted.ref_count v₀) z)))
        plain-lead
      where
        pos : (c : ℕ) → T (not (eqb c 0)) → 0 < c
        pos zero z = absurd z
        pos (suc c) z = omega arith

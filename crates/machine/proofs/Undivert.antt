-- A closed move lets go of what it carries: with the last carrier of a value its scratch place is filled from the first source, and given back.
use mathlib.Core.Path.{◌≡◌, refl, sym, ◌∙◌, ap, subst}
use mathlib.Core.Bool.{Bool, true, false, not, ◌&&◌, cond}
use mathlib.Core.List.{List, [], ◌∷◌}
use mathlib.Core.Option.{some}
use mathlib.Core.Logic.{◌⊎◌, inl, inr, ⊎_elim}
use Prim.Native.Nat.{ℕ, zero, suc, pred, ◌+◌, ◌≤◌, ◌<◌}
use native.Mathlib.Omega.{arith}
use lib.Dec.{T, T_not, not_T, eqb, eqb→eq, eqb_refl}
use lib.ListN.{length}
use Rattle.entity.specs.Logic.{has}
use Rattle.entity.specs.Place.{Place, reg, slot}
use Rattle.reginfo.specs.RegInfo.{RegInfo, spillslot_size}
use Rattle.function.specs.Function.{Function, value_bank}
use Rattle.rules.specs.Edit.{updated, and_then}
use Rattle.rules.specs.Scratch.{ScratchAllocator, release, release_place, with_cache, do_move}
use Rattle.rules.specs.Order.{KeptMove, State, Diverted, ParallelMoves, with_allocator, with_diverted, source, dest, value, writers, lost, undivert, undivert_all}
use Rattle.rules.proofs.Steps.{All, all_then, all_map, same?, updated-at, updated-same, updated-other}
use Rattle.machine.proofs.Tests.{has_in, has-head, has_other, and_split, both, no-l, no-r, if, cond_yes, cond-not}
use Rattle.machine.proofs.Memory.{distinct, TargetOk, covers, Apart, apart-sym}
use Rattle.machine.proofs.Run.{Job}
use Rattle.machine.proofs.Sound.{Needs}
use Rattle.machine.proofs.Search.{Empty, Kept, give-room}
use Rattle.machine.proofs.Tally.{tally, tally-pos, tally-cong, tally-up}
use Rattle.machine.proofs.Carry.{TabOk}
use Rattle.machine.proofs.Order as order
use Rattle.machine.proofs.Order.{is_done, Lv, PatchOk, empty-above, Shift, emit-shift, LiveDiv, live_map, Home, Inv, rider-need, inv-grow, inv-swap}

module _ (t : RegInfo) (F : Function) (tk : TargetOk t) (j : Job) (em : (s : ℕ) → F.slots ≤ s → j.may (512 + s)) (ms : List KeptMove) (ok : PatchOk t F tk j em ms) where
  abbrev Needed : (ℕ → Place) → Needs
  Needed = order.Needed t F tk j em ms

  abbrev Rest : (ℕ → Type 0) → ParallelMoves → Type 0
  Rest = order.Rest t F tk j em ms ok

  give-back : (z : ℕ) (needs : Needs) (k : ScratchAllocator) (s : ℕ) → Kept t F tk j em needs k → F.slots ≤ s → (Empty t F tk k s → ⊥) → ((p : Place) (x : ℕ) → needs p x → Apart t F tk p (slot s))
      → Kept t F tk j em needs (with_cache (release t F z s k.cache) k)
  give-back z needs k s h ab full out = record { sound = h.sound; room = give-room t F tk j em z needs k s h.room ab full out }

  dropped-ok : (i v : ℕ) (rest : List ℕ) (b : Diverted) → i < length ms → b.values i ≡ v ∷ rest → TabOk (length ms) b → TabOk (length ms) (lost t F ms i v rest b) × (b.ref_count v ≡ suc ((lost t F ms i v rest b).ref_count v))
  unfolding distinct
  dropped-ok i v rest b il e o = (record { counts = counts; once = once }, one)
    where
      c' : ℕ → List ℕ
      c' = updated i rest b.values

      sep : T (distinct (v ∷ rest))
      sep = subst (λ (z : List ℕ). T (distinct z)) e (o.once i)

      had : T (has_in (b.values i) v)
      had = subst (λ (z : List ℕ). T (has_in z v)) (sym e) (has-head rest v)

      hasnt : T (not (has_in (c' i) v))
      hasnt = subst (λ (z : List ℕ). T (not (has_in z v))) (sym (updated-same i rest b.values)) (and_split (not (has_in rest v)) (distinct rest) sep).0

      up : tally (λ k. has_in (b.values k) v) (length ms) ≡ suc (tally (λ k. has_in (c' k) v) (length ms))
      up = tally-up (λ k. has_in (c' k) v) (λ k. has_in (b.values k) v) (length ms) i il hasnt had (λ x d. ap (λ z. has_in z v) (updated-other i rest b.values x d))

      one : b.ref_count v ≡ suc (updated v (pred (b.ref_count v)) b.ref_count v)
      one = omega (arith, updated-same v (pred (b.ref_count v)) b.ref_count, o.counts v, up)

      counts : (x : ℕ) → updated v (pred (b.ref_count v)) b.ref_count x ≡ tally (λ k. has_in (c' k) x) (length ms)
      counts x =
          updated-at (λ y. y ≡ tally (λ k. has_in (c' k) x) (length ms)) v (pred (b.ref_count v)) b.ref_count x
          (λ q. subst (λ (z : ℕ). pred (b.ref_count v) ≡ tally (λ k. has_in (c' k) z) (length ms)) (sym q) (omega (arith, o.counts v, up)))
          (λ d. o.counts x ∙ tally-cong (λ k. has_in (b.values k) x) (λ k. has_in (c' k) x) (length ms)
          (λ k _. updated-at (λ y. has_in (b.values k) x ≡ has_in y x) i rest b.values k
          (λ q. subst (λ (z : ℕ). has_in (b.values z) x ≡ has_in rest x) (sym q) (ap (λ z. has_in z x) e ∙ has_other rest v x d)) (λ _. refl)))

      once : (k : ℕ) → T (distinct (c' k))
      once k = updated-at (λ y. T (distinct y)) i rest b.values k (λ _. (and_split (not (has_in rest v)) (distinct rest) sep).1) (λ _. o.once k)

  module _ (i : ℕ) (il : i < length ms) (v : ℕ) (rest : List ℕ) (w : ParallelMoves) (dn : T (is_done (w.state i))) (rs : Rest (λ k. k ≡ i) w) (ce : w.diverted.values i ≡ v ∷ rest) where
    b₁ : Diverted
    b₁ = lost t F ms i v rest w.diverted

    abbrev Let : ParallelMoves → Type 0
    Let w' = Rest (λ k. k ≡ i) w' × ((k : ℕ) → w'.state k ≡ w.state k) × (w'.diverted.values i ≡ rest)

    dk : TabOk (length ms) b₁ × (w.diverted.ref_count v ≡ suc (b₁.ref_count v))
    unfolding b₁
    dk = dropped-ok i v rest w.diverted il ce rs.tab

    lv : Lv w v
    lv = omega (arith, dk.1)

    others : (y : ℕ) → (y ≡ v → ⊥) → b₁.ref_count y ≡ w.diverted.ref_count y
    unfolding b₁
    others y d = updated-other v (pred (w.diverted.ref_count v)) w.diverted.ref_count y d

    more : (k x : ℕ) → T (has_in (w.diverted.values k) x) → T (has_in (b₁.values k) x) ⊎ T (is_done (w.state k))
    unfolding b₁
    more k x h =
        ⊎_elim (λ e. inr (subst (λ (z : ℕ). T (is_done (w.state z))) (sym e) dn))
        (λ d. inl (subst (λ (z : List ℕ). T (has_in z x)) (sym (updated-other i rest w.diverted.values k d)) h)) (same? k i)

    still₂ : (k x : ℕ) → T (has_in (b₁.values k) x) → (k ≡ i) ⊎ T (not (is_done (w.state k)))
    unfolding b₁
    still₂ k x h =
        ⊎_elim (λ e. inl e) (λ d. rs.still k x (subst (λ (z : List ℕ). T (has_in z x)) (updated-other i rest w.diverted.values k d) h)) (same? k i)

    car₂ : b₁.values i ≡ rest
    unfolding b₁
    car₂ = updated-same i rest w.diverted.values

    go_on : T (not (eqb (b₁.ref_count v) 0)) → Let (with_diverted b₁ w)
    go_on nz = (
      record {
        pl = rs.pl;
        ride = rs.ride;
        inv =
            inv-swap t F tk j em ms ok (Lv w) (Lv w) (λ y. 0 < b₁.ref_count y) (λ y. 0 < b₁.ref_count y) (with_diverted b₁ w) w.state rs.pl rs.ride up down down
            (inv-grow t F tk j em ms ok (Lv w) (Lv w) w w.state w.state rs.pl rs.ride b₁ (λ x h. h) more rs.inv);
        tab = dk.0;
        still = still₂;
      },
      λ k. refl,
      car₂,
    )
      where
        pos : (c : ℕ) → T (not (eqb c 0)) → 0 < c
        pos zero z = absurd z
        pos (suc c) z = omega arith

        up : (y : ℕ) → Lv w y → 0 < b₁.ref_count y
        up y h = ⊎_elim (λ e. subst (λ (z : ℕ). 0 < b₁.ref_count z) (sym e) (pos (b₁.ref_count v) nz)) (λ d. omega (arith, others y d)) (same? y v)

        down : (y : ℕ) → 0 < b₁.ref_count y → Lv w y
        down y h = ⊎_elim (λ e. subst (Lv w) (sym e) lv) (λ d. omega (arith, others y d)) (same? y v)

    -- the last carrier: the riders are read at the first source again
    module _ (z0 : b₁.ref_count v ≡ 0) where
      d₀ : LiveDiv t F tk j em ms ok w w.state v
      d₀ = rs.inv.lives v lv

      pl₂ : ℕ → Place
      pl₂ k = cond (rs.ride k && eqb (value t F ms k) v) (w.alloc v) (rs.pl k)

      ride₂ : ℕ → Bool
      ride₂ k = rs.ride k && not (eqb (value t F ms k) v)

      record Rides (k : ℕ) : Type 0 where
        it : T (rs.ride k && eqb (value t F ms k) v)
        val : value t F ms k ≡ v
        at : rs.pl k ≡ w.scratch v

      record Other (k : ℕ) : Type 0 where
        it : T (not (rs.ride k && eqb (value t F ms k) v))
        off : Apart t F tk (rs.pl k) (w.scratch v)

      sorted : (k : ℕ) → k < length ms → Rides k ⊎ Other k
      sorted k kl = go (is_done (w.state k)) (λ h. h) (λ h. h)
        where
          riding : T (rs.ride k) × Lv w (value t F ms k) × (rs.pl k ≡ w.scratch (value t F ms k)) → Rides k ⊎ Other k
          riding r =
              ⊎_elim
              (λ e. inl (record { it = both (rs.ride k) (eqb (value t F ms k) v) r.0 (subst (λ (z : ℕ). T (eqb (value t F ms k) z)) e (eqb_refl (value t F ms k))); val = e; at = r.2 ∙ ap w.scratch e }))
              (λ d. inr (record {
                it = no-r (rs.ride k) (eqb (value t F ms k) v) (λ y. d (eqb→eq (value t F ms k) v y));
                off = subst (λ (q : Place). Apart t F tk q (w.scratch v)) (sym r.2) (rs.inv.apart_s (value t F ms k) v r.1 lv d);
              })) (same? (value t F ms k) v)

          homely : T (not (rs.ride k)) × Home t F tk j em ms ok w rs.pl k → Rides k ⊎ Other k
          homely r =
              inr (record {
                it = no-l (rs.ride k) (eqb (value t F ms k) v) r.0;
                off = subst (λ (q : Place). Apart t F tk q (w.scratch v)) (sym r.1.at) (apart-sym t F tk (w.scratch v) (source t F ms r.1.of) (d₀.apart_r r.1.of r.1.of-in));
              })

          go : (b : Bool) → (T b → T (is_done (w.state k))) → (T (not b) → T (not (is_done (w.state k)))) → Rides k ⊎ Other k
          go true y n = ⊎_elim riding homely (rs.inv.gone k kl (y tt))
          go false y n =
              let h = rs.inv.here k kl (n tt) in
              inr (record {
                it = no-l (rs.ride k) (eqb (value t F ms k) v) h.1;
                off = subst (λ (q : Place). Apart t F tk q (w.scratch v)) (sym h.0) (apart-sym t F tk (w.scratch v) (dest t F ms k) (d₀.apart_d k kl (n tt)));
              })

      moved : (k : ℕ) → Rides k → pl₂ k ≡ w.alloc v
      unfolding pl₂
      moved k r = cond_yes (rs.ride k && eqb (value t F ms k) v) (w.alloc v) (rs.pl k) r.it

      stays : (k : ℕ) → Other k → pl₂ k ≡ rs.pl k
      unfolding pl₂
      stays k r = cond-not (rs.ride k && eqb (value t F ms k) v) (w.alloc v) (rs.pl k) r.it

      not-other : (k : ℕ) → T (rs.ride k) → value t F ms k ≡ v → Other k → ⊥
      not-other k a e o = T_not (rs.ride k && eqb (value t F ms k) v) o.it (both (rs.ride k) (eqb (value t F ms k) v) a (subst (λ (z : ℕ). T (eqb (value t F ms k) z)) e (eqb_refl (value t F ms k))))

      shift₂ : Shift t F tk j em ms ok rs.pl pl₂ (w.scratch v) (w.alloc v) v
      shift₂ =
          record {
            who =
                (let y = rs.inv.riders v lv in
                ⊎_elim (λ r. (y.0, y.1, r.at, r.val, moved y.0 r)) (λ o. absurd (not-other y.0 y.3 y.4 o)) (sorted y.0 y.1));
            each = λ k kl. ⊎_elim (λ r. inl (r.at, r.val, moved k r)) (λ o. inr (stays k o, o.off)) (sorted k kl);
          }

      over₂ : (x : ℕ) → T (has_in (writers t F ms d₀.origin) x) → T (is_done (w.state x))
      over₂ x h =
          ⊎_elim
          (λ c. ⊎_elim (λ c'. absurd (none x (ok.written d₀.origin x h) c')) (λ y. y) (more x v c))
          (λ y. y) (d₀.held x h)
        where
          none : (x : ℕ) → x < length ms → T (has_in (b₁.values x) v) → ⊥
          none x xl c =
              let p : 0 < tally (λ k. has_in (b₁.values k) v) (length ms) = tally-pos (λ k. has_in (b₁.values k) v) (length ms) x xl c in
              omega (arith, dk.0.counts v)

      off-v : (y : ℕ) → 0 < b₁.ref_count y → y ≡ v → ⊥
      off-v y h e = let q : 0 < b₁.ref_count v = subst (λ (z : ℕ). 0 < b₁.ref_count z) e h in omega arith

      was-lv : (y : ℕ) → 0 < b₁.ref_count y → Lv w y
      was-lv y h = omega (arith, others y (off-v y h))

      now-lv : (y : ℕ) → (y ≡ v → ⊥) → Lv w y → 0 < b₁.ref_count y
      now-lv y d h = omega (arith, others y d)

      -- the scratch place, if a slot, is free again
      back-kept : (k : ScratchAllocator) → Kept t F tk j em (Needed pl₂) k → ((s : ℕ) → Empty t F tk k s → Empty t F tk w.allocator s) → Kept t F tk j em (Needed pl₂) (release_place t F (spillslot_size t (value_bank F v)) (w.scratch v) k)
      unfolding covers
      back-kept k h fw = go (w.scratch v) refl
        where
          go : (p : Place) → w.scratch v ≡ p → Kept t F tk j em (Needed pl₂) (release_place t F (spillslot_size t (value_bank F v)) p k)
          go (reg r) e = h
          go (slot s) e = give-back (spillslot_size t (value_bank F v)) (Needed pl₂) k s h (d₀.above s e) full out
            where
              own : T (covers t F tk (slot s) (512 + s))
              own = eqb_refl (512 + s)

              full : Empty t F tk k s → ⊥
              full em' = rs.inv.kept.room.empty (w.scratch v) v (rider-need t F tk j em ms ok (Lv w) (Lv w) w w.state rs.pl rs.ride rs.inv v lv) s (fw s em') (512 + s) (subst (λ (q : Place). T (covers t F tk q (512 + s))) (sym e) own) own

              out : (p : Place) (x : ℕ) → Needed pl₂ p x → Apart t F tk p (slot s)
              out p x n =
                  ⊎_elim (λ r. subst (λ (q : Place). Apart t F tk q (slot s)) (sym (n.2 ∙ moved n.0 r ∙ d₀.origin-at)) (ok.src-real d₀.origin s d₀.origin-in (d₀.above s e)))
                  (λ o. subst (λ (q : Place). Apart t F tk q (slot s)) (sym (n.2 ∙ stays n.0 o)) (subst (Apart t F tk (rs.pl n.0)) e o.off)) (sorted n.0 n.1)

      finished : (k : ScratchAllocator) → Kept t F tk j em (Needed pl₂) k → Inv t F tk j em ms ok (λ y. 0 < b₁.ref_count y) (λ y. 0 < b₁.ref_count y) (with_diverted b₁ (with_allocator k w)) w.state pl₂ ride₂
      unfolding pl₂ ride₂
      finished k h =
          record {
            kept = h;
            here = λ x xl n.
                let y = rs.inv.here x xl n in
                (cond-not (rs.ride x && eqb (value t F ms x) v) (w.alloc v) (rs.pl x) (no-l (rs.ride x) (eqb (value t F ms x) v) y.1) ∙ y.0, no-l (rs.ride x) (not (eqb (value t F ms x) v)) y.1);
            gone = λ x xl hd. ⊎_elim (now-home x) (other x xl hd) (sorted x xl);
            lives = λ y l. live_map t F tk j em ms ok w (with_diverted b₁ (with_allocator k w)) w.state w.state y refl refl (λ x. ⊎_elim (more x y) (λ q. inr q)) (λ k n. n) (rs.inv.lives y (was-lv y l));
            riders = λ y r.
                let q = rs.inv.riders y (was-lv y r) in
                (q.0, q.1, q.2, both (rs.ride q.0) (not (eqb (value t F ms q.0) v)) q.3 (not_T (eqb (value t F ms q.0) v) (λ e. off-v y r (sym q.4 ∙ eqb→eq (value t F ms q.0) v e))), q.4);
            apart_s = λ a b la lb. rs.inv.apart_s a b (was-lv a la) (was-lv b lb);
          }
        where
          w₃ : ParallelMoves
          w₃ = with_diverted b₁ (with_allocator k w)

          G : ℕ → Type 0
          G x = (T (ride₂ x) × (0 < b₁.ref_count (value t F ms x)) × (pl₂ x ≡ w.scratch (value t F ms x))) ⊎ (T (not (ride₂ x)) × Home t F tk j em ms ok w₃ pl₂ x)

          now-home : (x : ℕ) → Rides x → G x
          now-home x r =
              inr (
                no-r (rs.ride x) (not (eqb (value t F ms x) v)) (λ y. T_not (eqb (value t F ms x) v) y (and_split (rs.ride x) (eqb (value t F ms x) v) r.it).1),
                record { of = d₀.origin; of-in = d₀.origin-in; at = moved x r ∙ d₀.origin-at; val = d₀.origin-val ∙ sym r.val; over = over₂ },
              )

          other : (x : ℕ) → x < length ms → T (is_done (w.state x)) → Other x → G x
          other x xl hd o =
              ⊎_elim
              (λ g.
              let d : value t F ms x ≡ v → ⊥ = (λ e. not-other x g.0 e o) in
              inl (both (rs.ride x) (not (eqb (value t F ms x) v)) g.0 (not_T (eqb (value t F ms x) v) (λ e. d (eqb→eq (value t F ms x) v e))), now-lv (value t F ms x) d g.1, stays x o ∙ g.2))
              (λ g.
              inr (
                no-l (rs.ride x) (not (eqb (value t F ms x) v)) g.0,
                record { of = g.1.of; of-in = g.1.of-in; at = stays x o ∙ g.1.at; val = g.1.val; over = g.1.over },
              ))
              (rs.inv.gone x xl hd)

      finish : All Let (and_then (do_move t F (value_bank F v) (w.scratch v) (w.alloc v) v w.allocator) (λ k. some (with_diverted b₁ (with_allocator (release_place t F (spillslot_size t (value_bank F v)) (w.scratch v) k) w))))
      finish =
          all_then (λ k. Kept t F tk j em (Needed pl₂) k × ((s : ℕ) → Empty t F tk k s → Empty t F tk w.allocator s)) Let (do_move t F (value_bank F v) (w.scratch v) (w.alloc v) v w.allocator) _
          (emit-shift t F tk j em ms ok rs.pl pl₂ (w.scratch v) (w.alloc v) v w.allocator shift₂ d₀.len d₀.inside
          (λ s e. rw d₀.origin-at (ok.src-real d₀.origin s d₀.origin-in (empty-above t F tk j em ms ok (Needed rs.pl) w.allocator rs.inv.kept s e))) rs.inv.kept)
          (λ k kp. (
            record { pl = pl₂; ride = ride₂; inv = finished (release_place t F (spillslot_size t (value_bank F v)) (w.scratch v) k) (back-kept k kp.0 kp.1); tab = dk.0; still = still₂ },
            λ x. refl,
            car₂,
          ))

    pub let_go : All Let (undivert t F ms i v rest w)
    unfolding undivert b₁
    let_go = if (All Let) (eqb (b₁.ref_count v) 0) _ _ (λ z. finish (eqb→eq (b₁.ref_count v) 0 z)) go_on

  pub release-ok : (i : ℕ) → i < length ms → (vs : List ℕ) (w : ParallelMoves) → w.diverted.values i ≡ vs → T (is_done (w.state i)) → Rest (λ k. k ≡ i) w
      → All (λ w'. Rest (λ k. ⊥) w' × ((k : ℕ) → w'.state k ≡ w.state k)) (undivert_all t F ms i vs w)
  unfolding undivert_all has
  release-ok i il [] w e dn rs = (
    record {
      pl = rs.pl;
      ride = rs.ride;
      inv = rs.inv;
      tab = rs.tab;
      still = λ k v h. ⊎_elim (λ q. absurd (subst (λ (z : List ℕ). T (has_in z v)) (ap w.diverted.values q ∙ e) h)) (λ q. inr q) (rs.still k v h);
    },
    λ k. refl,
  )
  release-ok i il (v ∷ vs) w e dn rs =
      all_then (λ w'. Rest (λ k. k ≡ i) w' × ((k : ℕ) → w'.state k ≡ w.state k) × (w'.diverted.values i ≡ vs)) (λ w'. Rest (λ k. ⊥) w' × ((k : ℕ) → w'.state k ≡ w.state k)) (undivert t F ms i v vs w) _
      (let_go i il v vs w dn rs e)
      (λ w₁ r.
      all_map (λ w'. Rest (λ k. ⊥) w' × ((k : ℕ) → w'.state k ≡ w₁.state k)) (λ w'. Rest (λ k. ⊥) w' × ((k : ℕ) → w'.state k ≡ w.state k)) (undivert_all t F ms i vs w₁)
      (λ w' q. (q.0, λ k. q.1 k ∙ r.1 k))
      (release-ok i il vs w₁ r.2 (subst (λ (z : State). T (is_done z)) (sym (r.1 i)) dn) r.0))

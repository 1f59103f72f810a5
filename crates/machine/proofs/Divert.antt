-- A scratch place just found for a diversion: it is apart from all that is needed, and the diversion lives.
use mathlib.Core.Path.{◌≡◌, refl, sym, ◌∙◌, subst}
use mathlib.Core.Bool.{Bool, not}
use mathlib.Core.List.{List}
use mathlib.Core.Logic.{◌⊎◌, inl, inr, ⊎_elim}
use Prim.Native.Nat.{ℕ, ◌+◌, ◌≤◌, ◌<◌}
use native.Mathlib.Nat.{add_left_cancel}
use lib.Dec.{T, T_not, eqb→eq, eqb_refl}
use lib.ListN.{length}
use Rattle.entity.specs.Place.{Place, reg, slot}
use Rattle.reginfo.specs.RegInfo.{RegInfo, reg_units, includes_spillslots, top_level_class}
use Rattle.function.specs.Function.{Function, value_bank}
use Rattle.rules.specs.Edit.{updated}
use Rattle.rules.specs.Scratch.{Found, units_of_reg, make_unavailable}
use Rattle.rules.specs.Order.{KeptMove, State, ParallelMoves, source, dest, value, writers, cycle_move_sources, noted}
use Rattle.rules.proofs.Steps.{updated-same, updated-other}
use Rattle.machine.proofs.Tests.{has_in, and_split}
use Rattle.machine.proofs.Memory.{TargetOk, covers, Apart, apart-sym}
use Rattle.machine.proofs.Run.{Job}
use Rattle.machine.proofs.Sound.{Needs, Within}
use Rattle.machine.proofs.Search.{Empty, Kept, Free, Lone, FoundOk, kept_free}
use Rattle.machine.proofs.Order as order
use Rattle.machine.proofs.Order.{is_done, PatchOk, LiveDiv, live_map, Inv, rider-need}

module _ (t : RegInfo) (F : Function) (tk : TargetOk t) (j : Job) (em : (s : ℕ) → F.slots ≤ s → j.may (512 + s)) (ms : List KeptMove) (ok : PatchOk t F tk j em ms) where
  abbrev Needed : (ℕ → Place) → Needs
  Needed = order.Needed t F tk j em ms

  -- a scratch place just found for a diversion of i's value
  module _ (L : ℕ → Type 0) (w : ParallelMoves) (st : ℕ → State) (pl : ℕ → Place) (ride : ℕ → Bool) (inv : Inv t F tk j em ms ok L L w st pl ride) (i : ℕ) (il : i < length ms) (x : Found)
      (f : FoundOk t F tk j em (Needed pl) (value_bank F (value t F ms i)) (top_level_class t (value_bank F (value t F ms i))) (length (j.content (value t F ms i))) (cycle_move_sources t F ms) (ok.top-ok (value t F ms i) (ok.valued i il)) w.allocator x) where
    abbrev cl : ℕ
    cl = top_level_class t (value_bank F (value t F ms i))

    units : (u : ℕ) → T (covers t F tk x.place u) → Free t F tk j em cl (cycle_move_sources t F ms) x.scratch u ⊎ Lone t F tk j em (Needed pl) x.place x.scratch u
    units u c = ⊎_elim (λ y. y) (λ z. absurd (T_not (includes_spillslots t cl) z.0 (ok.top-slots (value t F ms i) (ok.valued i il)))) (f.clean u c)

    low_free : (u s : ℕ) → u ≡ 512 + s → Free t F tk j em cl (cycle_move_sources t F ms) x.scratch u → ⊥
    low_free u s e fr = T_not (has_in (reg_units t fr.of) (512 + s)) (tk.low fr.of s) (subst (λ (z : ℕ). T (has_in (reg_units t fr.of) z)) e fr.its)

    slot-unit : (s u : ℕ) → T (covers t F tk (slot s) u) → u ≡ 512 + s
    unfolding covers
    slot-unit s u c = eqb→eq u (512 + s) c

    unit-slot : (s : ℕ) → T (covers t F tk (slot s) (512 + s))
    unfolding covers
    unit-slot s = eqb_refl (512 + s)

    lone-covers : (u : ℕ) (l : Lone t F tk j em (Needed pl) x.place x.scratch u) → T (covers t F tk x.place u) → T (covers t F tk (slot l.at) u)
    lone-covers u l c = subst (λ (q : Place). T (covers t F tk q u)) l.is c

    sc-need : (p : Place) (y : ℕ) → Needed pl p y → Apart t F tk x.place p
    sc-need p y n u a b =
        ⊎_elim (λ fr. kept_free t F tk j em (Needed pl) cl (cycle_move_sources t F ms) x.scratch u f.kept.room fr p y n b) (λ l. l.apart p y n u b (lone-covers u l a)) (units u a)

    sc-src : (m : ℕ) → m < length ms → Apart t F tk x.place (source t F ms m)
    unfolding covers reg_units
    sc-src m ml u a b =
        ⊎_elim (λ fr. T_not (cycle_move_sources t F ms u) fr.unbarred (ok.barred m u ml (at_reg (source t F ms m) fr b))) (λ l. ok.src-real m l.at ml l.above u b (lone-covers u l a)) (units u a)
      where
        at_reg : (p : Place) → Free t F tk j em cl (cycle_move_sources t F ms) x.scratch u → T (covers t F tk p u) → T (has_in (units_of_reg t F p) u)
        at_reg (reg r) fr c = c
        at_reg (slot s) fr c = absurd (low_free u s (slot-unit s u c) fr)

    pub sc-real : (s : ℕ) → Empty t F tk x.scratch s → Apart t F tk x.place (slot s)
    sc-real s e u a b =
        ⊎_elim (low_free u s (slot-unit s u b))
        (λ l. l.full (subst (Empty t F tk x.scratch) (add_left_cancel 512 (sym (slot-unit s u b) ∙ l.its)) e)) (units u a)

    sc-inside : Within t F tk j (covers t F tk x.place)
    sc-inside u a = ⊎_elim (λ fr. f.kept.room.inside fr.of u fr.its fr.now) (λ l. subst j.may (sym l.its) (em l.at l.above)) (units u a)

    sc-above : (s : ℕ) → x.place ≡ slot s → F.slots ≤ s
    sc-above s e =
        let c : T (covers t F tk x.place (512 + s)) = subst (λ (q : Place). T (covers t F tk q (512 + s))) (sym e) (unit-slot s) in
        ⊎_elim (λ fr. absurd (low_free (512 + s) s refl fr)) (λ l. subst (λ (z : ℕ). F.slots ≤ z) (sym (add_left_cancel 512 l.its)) l.above) (units (512 + s) c)

    abbrev v : ℕ
    v = value t F ms i

    abbrev L⁺ : ℕ → Type 0
    L⁺ y = L y ⊎ (y ≡ v)

    narrow : Kept t F tk j em (Needed pl) (make_unavailable t F x.place x.scratch)
    narrow =
        record {
          sound = f.kept.sound;
          room =
              record {
                inside = λ r u y c. f.kept.room.inside r u y (and_split (x.scratch.available u) (not (has_in (units_of_reg t F x.place) u)) c).0;
                spare = λ r y n u h c. f.kept.room.spare r y n u h (and_split (x.scratch.available u) (not (has_in (units_of_reg t F x.place) u)) c).0;
                cache-ok = f.kept.room.cache-ok;
                waits = f.kept.room.waits;
                empty = f.kept.room.empty;
              };
        }

    pub install : (L v → ⊥) → ((k : ℕ) → T (has_in (writers t F ms i) k) → T (has_in (w.diverted.values k) v) ⊎ T (is_done (st k)))
        → Inv t F tk j em ms ok L⁺ L (noted t F ms i x w) st pl ride
    install nl hd =
        record {
          kept = narrow;
          here = inv.here;
          gone = λ k kl h.
              ⊎_elim (λ y. inl (y.0, inl y.1, y.2 ∙ sym (scr (value t F ms k) y.1)))
              (λ y. inr (y.0, record { of = y.1.of; of-in = y.1.of-in; at = y.1.at; val = y.1.val; over = y.1.over })) (inv.gone k kl h);
          lives = λ y. ⊎_elim (old y) (λ e. subst (λ (z : ℕ). LiveDiv t F tk j em ms ok (noted t F ms i x w) st z) (sym e) fresh);
          riders = inv.riders;
          apart_s = pair;
        }
      where
        off : (y : ℕ) → L y → y ≡ v → ⊥
        off y l e = nl (subst L e l)

        scr : (y : ℕ) → L y → updated v x.place w.scratch y ≡ w.scratch y
        scr y l = updated-other v x.place w.scratch y (off y l)

        new : updated v x.place w.scratch v ≡ x.place
        new = updated-same v x.place w.scratch

        old : (y : ℕ) → L y → LiveDiv t F tk j em ms ok (noted t F ms i x w) st y
        old y l = live_map t F tk j em ms ok w (noted t F ms i x w) st st y (updated-other v (source t F ms i) w.alloc y (off y l)) (scr y l) (λ k h. h) (λ k n. n) (inv.lives y l)

        fresh : LiveDiv t F tk j em ms ok (noted t F ms i x w) st v
        fresh =
            record {
              origin = i;
              origin-in = il;
              origin-at = updated-same v (source t F ms i) w.alloc;
              origin-val = refl;
              held = hd;
              apart_d = λ k kl n. rw new (sc-need (dest t F ms k) (value t F ms k) (k, kl, sym (inv.here k kl n).0, refl));
              apart_r = λ m ml. rw new (sc-src m ml);
              len = rw new f.len;
              inside = rw new sc-inside;
              above = λ s e. sc-above s (sym new ∙ e);
            }

        nw : (y : ℕ) → y ≡ v → updated v x.place w.scratch y ≡ x.place
        nw y e = subst (λ (z : ℕ). updated v x.place w.scratch z ≡ x.place) (sym e) new

        need : (y : ℕ) → L y → Needed pl (w.scratch y) y
        need y l = rider-need t F tk j em ms ok L L w st pl ride inv y l

        pair : (a b : ℕ) → L⁺ a → L⁺ b → (a ≡ b → ⊥) → Apart t F tk (updated v x.place w.scratch a) (updated v x.place w.scratch b)
        pair a b (inl la) (inl lb) d = rw (scr a la, scr b lb) (inv.apart_s a b la lb d)
        pair a b (inl la) (inr eb) d = rw (scr a la, nw b eb) (apart-sym t F tk x.place (w.scratch a) (sc-need (w.scratch a) a (need a la)))
        pair a b (inr ea) (inl lb) d = rw (nw a ea, scr b lb) (sc-need (w.scratch b) b (need b lb))
        pair a b (inr ea) (inr eb) d = absurd (d (ea ∙ sym eb))

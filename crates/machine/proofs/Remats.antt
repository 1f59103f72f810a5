-- The rebuilds, put behind the kept moves: without scratch, with one scratch place, with two.
use mathlib.Core.Path.{◌≡◌, refl, sym, subst}
use mathlib.Core.Bool.{not}
use mathlib.Core.List.{[], ◌∷◌}
use mathlib.Core.Option.{some}
use mathlib.Core.Logic.{inl, inr, ⊎_elim}
use Prim.Native.Nat.{ℕ, ◌+◌, ◌≤◌}
use native.Mathlib.Nat.{add_left_cancel}
use lib.Dec.{T, T_not, not_T, eqb_refl}
use lib.ListN.{length}
use Rattle.entity.specs.Place.{Place, reg, slot}
use Rattle.reginfo.specs.RegInfo.{RegInfo, reg_units, bank_for_class, includes_spillslots, class_members, last_in_order, spillslot_size, is_memory}
use Rattle.function.specs.Function.{Function, remat_class}
use Rattle.rules.specs.Edit.{Rematerialize, and_then}
use Rattle.rules.specs.Scratch.{ScratchAllocator, Found, push, units_of_reg, make_available, release_place, unevict_for_reg, get_scratch_reg, nothing_barred, move_edits}
use Rattle.rules.specs.Order.{do_remat, remat_with_scratch}
use Rattle.machine.specs.Machine.{fits}
use Rattle.rules.proofs.Steps.{All, all_then}
use Rattle.machine.proofs.Tests.{has_in, or_case, and_split}
use Rattle.machine.proofs.Memory.{TargetOk, covers, Apart}
use Rattle.machine.proofs.Run.{Waits, Job}
use Rattle.machine.proofs.View.{under, shown, Aside}
use Rattle.machine.proofs.Sound.{Needs, can, Within, Live, Ok, Pre, Sound, Turns, Stands}
use Rattle.machine.proofs.Macro.{Scratch, remat-edit, remat-into}
use Rattle.machine.proofs.Search.{wait, WaitsIn, Empty, ApartW, reg-covers, Room, Kept, BackFor, bring_for-ok, ClassOk, Free, Lone, FoundOk, search-ok, kept_free, give-room}
use Rattle.machine.proofs.Emit.{Asked, StackOk, goal, Moved, move_edits-ok}

module _ (t : RegInfo) (F : Function) (tk : TargetOk t) (j : Job) (em : (s : ℕ) → F.slots ≤ s → j.may (512 + s)) where
  abbrev K : Needs → ScratchAllocator → Type 0
  K = Kept t F tk j em

  -- putting a slot back leaves the program as it is
  released : (z : ℕ) (p : Place) (k : ScratchAllocator) (needs : Needs) → Sound t F tk j k.edits (wait k) (Ok t F tk j needs (wait k))
      → Sound t F tk j (release_place t F z p k).edits (wait (release_place t F z p k)) (Ok t F tk j needs (wait (release_place t F z p k)))
  released z (reg r) k needs h = h
  released z (slot s) k needs h = h

  -- a rebuild asked for: afterwards the value is needed no more at its destination
  pub record AskedR (needs needs' : Needs) (to : Place) (v : ℕ) : Type 0 where
    pub live : Live t F tk j needs
    pub given : needs to v
    pub turns : Turns t F tk j needs needs' [] to v
    pub back : (p : Place) (x : ℕ) → needs' p x → needs p x × Apart t F tk p to
    pub len : T (fits t F to (length (j.content v)))
    pub inside : Within t F tk j (covers t F tk to)

  -- what a rebuild class must have
  pub record RematOk (to : Place) (v c : ℕ) : Type 0 where
    pub ok : ClassOk t F tk j em c (length (j.content v))
    pub can-reg : (r : ℕ) → T (has_in (class_members t c) r) → T (can t F tk v (reg r))
    pub can-slot : T (includes_spillslots t c) → (s : ℕ) → T (can t F tk v (slot s))
    pub far : T (not (includes_spillslots t c)) → Apart t F tk to (reg (last_in_order t c))

  module _ (needs needs' : Needs) (to : Place) (v : ℕ) (a : AskedR needs needs' to v) where
    -- as a move from anywhere
    asked : (from : Place) → Asked t F tk j em needs needs' to from v
    asked from = record { live = a.live; given = a.given; turns = a.turns; back = λ p x n. inr (a.back p x n); len = a.len; inside = a.inside }

    -- the destination's units become available
    shed-ok : (k : ScratchAllocator) → Room t F tk j em needs k → Sound t F tk j k.edits (wait k) (Ok t F tk j needs' (wait k)) → K needs' (make_available t F to k)
    shed-ok k h snd =
        record {
          sound = snd;
          room =
              record {
                inside = λ r u y c. ⊎_elim (λ i. a.inside u (reg-covers t F tk to u i)) (h.inside r u y) (or_case (has_in (units_of_reg t F to) u) (k.available u) c);
                spare = λ r x n u i c.
                    let b = a.back (reg r) x n in
                    ⊎_elim (λ y. b.1 u (reg-covers t F tk (reg r) u i) (reg-covers t F tk to u y)) (h.spare r x b.0 u i) (or_case (has_in (units_of_reg t F to) u) (k.available u) c);
                cache-ok = h.cache-ok;
                waits = h.waits;
                empty = λ p x n. h.empty p x (a.back p x n).0;
              };
        }

    pub plain_ok : (k : ScratchAllocator) → K needs k → ApartW t F tk (wait k) to → T (can t F tk v to) → K needs' (do_remat t F (record { dest = to; value = v }) k)
    plain_ok k h o c =
        shed-ok (push (Rematerialize to v) k) h.room
        (remat-edit t F tk j (wait k) v k.edits needs needs' h.sound a.live to (goal t F tk j em needs needs' to to v (asked to) k h.room o) c)

    -- a scratch place found, seen from a later allocator
    module _ (b c : ℕ) (ck : ClassOk t F tk j em c (length (j.content v))) (k : ScratchAllocator) (x : Found)
        (f : FoundOk t F tk j em needs b c (length (j.content v)) (nothing_barred t F) ck k x) where
      low : (r u s : ℕ) → u ≡ 512 + s → T (has_in (reg_units t r) u) → ⊥
      low r u s e h = T_not (has_in (reg_units t r) (512 + s)) (tk.low r s) (subst (λ (z : ℕ). T (has_in (reg_units t r) z)) e h)

      low-under : (ws : Waits) (u s : ℕ) → u ≡ 512 + s → T (under t F tk ws u) → ⊥
      unfolding under
      low-under [] u s e h = h
      low-under (x ∷ ws) u s e h = ⊎_elim (low x.reg u s e) (low-under ws u s e) (or_case (has_in (reg_units t x.reg) u) (under t F tk ws u) h)

      -- a slot found is a lone one
      lone : (u s : ℕ) → T (covers t F tk x.place u) → u ≡ 512 + s → Lone t F tk j em needs x.place x.scratch u
      lone u s d e = ⊎_elim (⊎_elim (λ fr. absurd (low fr.of u s e fr.its)) (λ l. l)) (λ z. absurd (low-under (wait x.scratch) u s e z.1)) (f.clean u d)

      module _ (k' : ScratchAllocator) (h : Room t F tk j em needs k') (fw : (s : ℕ) → Empty t F tk k' s → Empty t F tk x.scratch s) (av : (u : ℕ) → T (x.scratch.available u) → T (k'.available u))
          (hid : (u : ℕ) → T (under t F tk (wait x.scratch) u) → T (not (is_memory t x.place)) → T (under t F tk (wait k') u)) where
        scratch-of : Scratch t F tk j (wait k') v x.place needs'
        scratch-of =
            record {
              unneeded = λ p y n u d sh.
                  ⊎_elim
                  (⊎_elim (λ fr. kept_free t F tk j em needs c (nothing_barred t F) k' u h (moved u fr) p y (a.back p y n).0 d) (λ l. l.apart p y (a.back p y n).0 u d (subst (λ (q : Place). T (covers t F tk q u)) l.is (part u sh).0)))
                  (λ z. T_not (under t F tk (wait k') u) (part u sh).1 (hid u z.1 z.2)) (f.clean u (part u sh).0);
              len = f.len;
              inside = λ u sh.
                  ⊎_elim (⊎_elim (λ fr. h.inside fr.of u fr.its (av u fr.now)) (λ l. subst j.may (sym l.its) (em l.at l.above)))
                  (λ z. absurd (T_not (under t F tk (wait k') u) (part u sh).1 (hid u z.1 z.2))) (f.clean u (part u sh).0);
              aside = aside (wait k') (λ s e. fw s (inr e));
            }
          where
            part : (u : ℕ) → T (shown t F tk (wait k') (covers t F tk x.place) u) → T (covers t F tk x.place u) × T (not (under t F tk (wait k') u))
            part u sh = and_split (covers t F tk x.place u) (not (under t F tk (wait k') u)) sh

            moved : (u : ℕ) → Free t F tk j em c (nothing_barred t F) x.scratch u → Free t F tk j em c (nothing_barred t F) k' u
            moved u fr = record { of = fr.of; listed = fr.listed; its = fr.its; now = av u fr.now; unbarred = fr.unbarred }

            aside : (ws : Waits) → ((s : ℕ) → WaitsIn ws s → Empty t F tk x.scratch s) → Aside t F tk ws (covers t F tk x.place)
            aside [] g = tt
            aside (y ∷ ws) g = (
              not_T (covers t F tk x.place (512 + y.slot))
                  (λ d. let l = lone (512 + y.slot) y.slot d refl in l.full (subst (Empty t F tk x.scratch) (add_left_cancel 512 l.its) (g y.slot (inl refl)))),
              aside ws (λ s e. g s (inr e)),
            )

        -- its slot, if it is one, put back
        returned : (z : ℕ) → Room t F tk j em needs (release_place t F z x.place k')
        unfolding covers
        returned z = go x.place refl
          where
            go : (p : Place) → x.place ≡ p → Room t F tk j em needs (release_place t F z p k')
            go (reg r) e = h
            go (slot s) e =
                let d : T (covers t F tk x.place (512 + s)) = subst (λ (q : Place). T (covers t F tk q (512 + s))) (sym e) (eqb_refl (512 + s)) in
                let l = lone (512 + s) s d refl in
                let q : l.at ≡ s = sym (add_left_cancel 512 l.its) in
                give-room t F tk j em z needs k' s h (subst (λ (y : ℕ). F.slots ≤ y) q l.above) (λ y. l.full (subst (Empty t F tk x.scratch) (sym q) (fw s y)))
                (λ p y n. subst (λ (y : ℕ). Apart t F tk p (slot y)) q (l.apart p y n))

    abbrev cls : ℕ
    cls = remat_class F v

    abbrev bnk : ℕ
    bnk = bank_for_class t cls

    pub scratched-ok : RematOk to v cls → StackOk t F tk j em bnk (length (j.content v)) → (k₀ : ScratchAllocator) → K needs k₀ → All (K needs') (remat_with_scratch t F (record { dest = to; value = v }) k₀)
    unfolding remat_with_scratch
    scratched-ok rk sk k₀ h₀ =
        all_then (FoundOk t F tk j em needs bnk cls (length (j.content v)) (nothing_barred t F) rk.ok k) (K needs') (get_scratch_reg t F bnk cls (nothing_barred t F) k) _
        (search-ok t F tk j em needs bnk cls (length (j.content v)) (nothing_barred t F) rk.ok k b₁.back.kept) next
      where
        k : ScratchAllocator
        k = unevict_for_reg t F to k₀

        b₁ : BackFor t F tk j em needs to k₀ k
        b₁ = bring_for-ok t F tk j em needs to k₀ h₀

        next : (x : Found) → FoundOk t F tk j em needs bnk cls (length (j.content v)) (nothing_barred t F) rk.ok k x
            → All (K needs') (and_then (move_edits t F bnk to x.place v x.scratch) (λ k'. some (make_available t F to (release_place t F (spillslot_size t bnk) x.place (push (Rematerialize x.place v) k')))))
        next x f =
            all_then (Moved t F tk j em needs needs' to x.place v (asked x.place) P x.scratch) (K needs') (move_edits t F bnk to x.place v x.scratch) _
            (move_edits-ok t F tk j em needs needs' to x.place v (asked x.place) bnk sk P x.scratch f.kept (f.still to b₁.off rk.far) (λ m l h. (h.ok, h.raw)) (λ _ y g m l h. (h.ok, h.raw)))
            done
          where
            P : Waits → Pre t F tk j
            P w = Stands t F tk j needs' w x.place v

            able : T (can t F tk v x.place)
            able = ⊎_elim (λ y. subst (λ (q : Place). T (can t F tk v q)) (sym y.1) (rk.can-reg y.0 y.2)) (λ y. subst (λ (q : Place). T (can t F tk v q)) (sym y.1) (rk.can-slot y.2 y.0)) f.kind

            done : (k' : ScratchAllocator) → Moved t F tk j em needs needs' to x.place v (asked x.place) P x.scratch k'
                → K needs' (make_available t F to (release_place t F (spillslot_size t bnk) x.place (push (Rematerialize x.place v) k')))
            done k' m = shed-ok (release_place t F (spillslot_size t bnk) x.place k'') room (released (spillslot_size t bnk) x.place k'' needs' snd)
              where
                hid : (u : ℕ) → T (under t F tk (wait x.scratch) u) → T (not (is_memory t x.place)) → T (under t F tk (wait k') u)
                hid u h nm = subst (λ (ws : Waits). T (under t F tk ws u)) (sym (m.same nm)) h

                k'' : ScratchAllocator
                k'' = push (Rematerialize x.place v) k'

                room : Room t F tk j em needs (release_place t F (spillslot_size t bnk) x.place k'')
                room = returned bnk cls rk.ok k x f k'' m.room m.fewer m.avails hid (spillslot_size t bnk)

                snd : Sound t F tk j k''.edits (wait k'') (Ok t F tk j needs' (wait k''))
                snd = remat-into t F tk j (wait k') v k'.edits needs' x.place (scratch-of bnk cls rk.ok k x f k' m.room m.fewer m.avails hid) able m.sound

-- The scratch allocator's bringing back and its search, and that each keeps the program sound.
use mathlib.Core.Path.{◌≡◌, refl, sym, subst}
use mathlib.Core.Bool.{Bool, true, false, not, ◌&&◌, cond}
use mathlib.Core.List.{List, [], ◌∷◌, map}
use mathlib.Core.Option.{Option, some, none}
use mathlib.Core.Logic.{◌⊎◌, inl, inr, ⊎_elim}
use Prim.Native.Nat.{ℕ, pred, ◌+◌, ◌≤◌, ◌<◌}
use native.Mathlib.Omega.{arith}
use native.Mathlib.Nat.{add_left_cancel}
use native.Mathlib.Decide.{dec_lt}
use lib.Dec.{T, T_not, not_T, eqb, eqb→eq}
use lib.ListN.{take, drop}
use Rattle.entity.specs.Logic.{has, meets}
use Rattle.entity.specs.Place.{Place, reg, slot}
use Rattle.reginfo.specs.RegInfo.{RegInfo, reg_units, class_members, allocation_order, includes_spillslots, last_in_order, spillslot_size, is_memory_reg, is_memory, place_units}
use Rattle.function.specs.Function.{Function}
use Rattle.rules.specs.Edit.{Edit, EmergencySpill, EmergencyReload, find, filter}
use Rattle.rules.specs.Scratch.{Cache, Evicted, ScratchAllocator, Found, Acquired, with_evicted, with_cache, push, acquire, release, units_of_reg, unevict, unevict_all, unevict_but, overlaps_evicted, unevict_for_reg, make_room, usable, slot_scratch, evict_last, reuse, or_scratch, get_scratch_reg, meeting, searched_to}
use Rattle.machine.specs.Machine.{fits}
use Rattle.rules.proofs.Steps.{All, all_then, all_map, Every, every_map}
use Rattle.rules.proofs.Parts.{Picked, here, later, Parts, every-picked, picked-map, all-parts, filter_parts, drop-parts}
use Rattle.rules.proofs.Evictions.{unevict-evicted}
use Rattle.machine.proofs.Tests.{has_in, has-cons, all-has, find-all, or_split, or_l, or_r, and_split, if}
use Rattle.machine.proofs.Memory.{TargetOk, covers, Apart}
use Rattle.machine.proofs.Run.{Wait, Waits, Job}
use Rattle.machine.proofs.View.{Away, Spread, Plain, spread_picked, under, Clear, Aside}
use Rattle.machine.proofs.Sound.{Needs, Within, Ok, Sound, reload, spill}
use Rattle.machine.proofs.Cache.{Loose, CacheOk, Taken, take-ok, give-ok, loose-give}

abbrev pub waiting : Evicted → Wait
waiting e = record { reg = e.reg; slot = e.slot }

abbrev pub wait_of : List Evicted → Waits
wait_of es = map waiting es

abbrev pub wait : ScratchAllocator → Waits
wait k = wait_of k.evicted

abbrev pub WaitsIn : Waits → ℕ → Type 0
WaitsIn [] s = ⊥
WaitsIn (x ∷ ws) s = (s ≡ x.slot) ⊎ WaitsIn ws s

-- the slot of one of them, or of another
waits-picked : (x : Wait) (zs ws : Waits) (s : ℕ) → Picked x zs ws → (s ≡ x.slot) ⊎ WaitsIn ws s → WaitsIn zs s
waits-picked x _ ws s here h = h
waits-picked x _ _ s (later {l = zs} {m = ws} p) h = ⊎_elim (λ e. inr (waits-picked x zs ws s p (inl e))) (⊎_elim inl (λ i. inr (waits-picked x zs ws s p (inr i)))) h

-- a shared number
pub meets-not : (l m : List ℕ) → T (not (meets l m)) → (u : ℕ) → T (has_in l u) → T (has_in m u) → ⊥
unfolding meets has
meets-not [] m h u a b = a
meets-not (x ∷ l) m h u a b =
    ⊎_elim (λ e. T_not (has_in m x) (or_split (has_in m x) (meets l m) h).0 (subst (λ (y : ℕ). T (has_in m y)) e b))
    (λ i. meets-not l m (or_split (has_in m x) (meets l m) h).1 u i b) (has-cons l x u a)

module _ (t : RegInfo) (F : Function) (tk : TargetOk t) where
  -- an emergency slot that holds no value: free, or with a saved register in it
  abbrev pub EmptyIn : Cache → Waits → ℕ → Type 0
  EmptyIn c ws s = Loose t F c s ⊎ WaitsIn ws s

  abbrev pub Empty : ScratchAllocator → ℕ → Type 0
  Empty k s = EmptyIn k.cache (wait k) s

  abbrev pub ApartW : Waits → Place → Type 0
  ApartW ws p = Every (λ x. Apart t F tk p (reg x.reg)) ws

  pub place-covers : (p : Place) (u : ℕ) → T (covers t F tk p u) → T (has_in (place_units t p) u)
  unfolding covers has
  place-covers (reg r) u h = h
  place-covers (slot s) u h = or_l (eqb u (512 + s)) false h

  pub reg-covers : (p : Place) (u : ℕ) → T (has_in (units_of_reg t F p) u) → T (covers t F tk p u)
  unfolding covers has
  reg-covers (reg r) u h = h
  reg-covers (slot s) u h = absurd h

  module _ (j : Job) (em : (s : ℕ) → F.slots ≤ s → j.may (512 + s)) where
    pub record Saved (p : Cache) (x : Wait) : Type 0 where
      pub plain : T (not (is_memory_reg t x.reg))
      pub above : F.slots ≤ x.slot
      pub below : x.slot < F.slots + p.made
      pub tight : Loose t F p x.slot → ⊥

    abbrev pub WaitsOk : Cache → Waits → Type 0
    WaitsOk p ws = Every (Saved p) ws × Spread t F tk ws

    plain-all : (p : Cache) (ws : Waits) → Every (Saved p) ws → Plain t F tk ws
    plain-all p ws h = every_map (Saved p) (λ x. T (not (is_memory_reg t x.reg))) (λ x o. o.plain) ws h

    -- what is known beside the program itself
    pub record RoomAt (needs : Needs) (ws : Waits) (available : ℕ → Bool) (c : Cache) : Type 0 where
      pub inside : (r u : ℕ) → T (has_in (reg_units t r) u) → T (available u) → j.may u
      pub spare : (r v : ℕ) → needs (reg r) v → (u : ℕ) → T (has_in (reg_units t r) u) → T (available u) → ⊥
      pub cache-ok : CacheOk t F c
      pub waits : WaitsOk c ws
      pub empty : (p : Place) (v : ℕ) → needs p v → (s : ℕ) → EmptyIn c ws s → Apart t F tk p (slot s)

    pub record KeptAt (needs : Needs) (ws : Waits) (es : List Edit) (available : ℕ → Bool) (c : Cache) : Type 0 where
      pub sound : Sound t F tk j es ws (Ok t F tk j needs ws)
      pub room : RoomAt needs ws available c

    abbrev pub Room : Needs → ScratchAllocator → Type 0
    Room needs k = RoomAt needs (wait k) k.available k.cache

    abbrev pub Kept : Needs → ScratchAllocator → Type 0
    Kept needs k = KeptAt needs (wait k) k.edits k.available k.cache

    -- those that wait once a slot is put back, which is none of theirs
    given-waits : (z s : ℕ) (p : Cache) (ws : Waits) → Every (Saved p) ws → (WaitsIn ws s → ⊥) → Every (Saved (release t F z s p)) ws
    given-waits z s p [] o g = tt
    given-waits z s p (x ∷ ws) o g = (
      record { plain = o.0.plain; above = o.0.above; below = o.0.below; tight = λ e. ⊎_elim (λ q. g (inl (sym q))) o.0.tight (loose-give t F z s p x.slot e) },
      given-waits z s p ws o.1 (λ i. g (inr i)),
    )

    away-slot : (x : Wait) (ws : Waits) → Every (Away t F tk x) ws → WaitsIn ws x.slot → ⊥
    away-slot x [] a e = e
    away-slot x (y ∷ ws) a e = ⊎_elim a.0.slots (away-slot x ws a.1) e

    slot-within : (s : ℕ) → F.slots ≤ s → Within t F tk j (covers t F tk (slot s))
    unfolding covers
    slot-within s h u k = subst (λ (y : ℕ). j.may y) (sym (eqb→eq u (512 + s) k)) (em s h)

    -- what bringing back leaves: nothing waits that wasn't, and no other slot is empty
    pub record BackAt (needs : Needs) (zs : Waits) (available : ℕ → Bool) (c : Cache) (ws : Waits) (k : ScratchAllocator) : Type 0 where
      pub kept : KeptAt needs ws k.edits k.available k.cache
      pub still : (q : Place) → ApartW zs q → ApartW ws q
      pub fewer : (s : ℕ) → EmptyIn k.cache ws s → EmptyIn c zs s
      pub avails : (u : ℕ) → T (available u) → T (k.available u)

    abbrev pub Back : Needs → ScratchAllocator → ScratchAllocator → Type 0
    Back needs k k' = BackAt needs (wait k) k.available k.cache (wait k') k'

    module _ (needs : Needs) where
      -- one of those that wait is brought back
      bring-one : (e : Evicted) (zs ws : Waits) → Picked (waiting e) zs ws → (k : ScratchAllocator) → KeptAt needs zs k.edits k.available k.cache
          → BackAt needs zs k.available k.cache ws (with_cache (release t F e.size e.slot k.cache) (push (EmergencySpill e.slot e.reg) k))
      bring-one e zs ws p k h =
          record {
            kept =
                record {
                  sound = spill t F tk j (waiting e) zs ws p (plain-all k.cache zs h.room.waits.0) h.room.waits.1 k.edits needs h.sound (λ q v n. h.room.empty q v n e.slot (inr its)) (slot-within e.slot sv.0.above);
                  room =
                      record {
                        inside = h.room.inside;
                        spare = h.room.spare;
                        cache-ok = give-ok t F e.size e.slot k.cache sv.0.above sv.0.below sv.0.tight h.room.cache-ok;
                        waits = (given-waits e.size e.slot k.cache ws sv.1 (away-slot (waiting e) ws sp.0), sp.1);
                        empty = λ q v n s i. h.room.empty q v n s (fewer s i);
                      };
                };
            still = λ q a. (every-picked (λ x. Apart t F tk q (reg x.reg)) (waiting e) zs ws p a).1;
            fewer = fewer;
            avails = λ u h. h;
          }
        where
          sv : Saved k.cache (waiting e) × Every (Saved k.cache) ws
          sv = every-picked (Saved k.cache) (waiting e) zs ws p h.room.waits.0

          sp : Every (Away t F tk (waiting e)) ws × Spread t F tk ws
          sp = spread_picked t F tk (waiting e) zs ws p h.room.waits.1

          its : WaitsIn zs e.slot
          its = waits-picked (waiting e) zs ws e.slot p (inl refl)

          fewer : (s : ℕ) → EmptyIn (release t F e.size e.slot k.cache) ws s → EmptyIn k.cache zs s
          fewer s (inl i) = ⊎_elim (λ y. inr (waits-picked (waiting e) zs ws s p (inl y))) (λ y. inl y) (loose-give t F e.size e.slot k.cache s i)
          fewer s (inr i) = inr (waits-picked (waiting e) zs ws s p (inr i))

      bring-list : (es rest l : List Evicted) → Parts es rest l → (k : ScratchAllocator) → KeptAt needs (wait_of l) k.edits k.available k.cache
          → BackAt needs (wait_of l) k.available k.cache (wait_of rest) (unevict t F es k)
      unfolding unevict
      bring-list [] rest l p k h = rw p (record { kept = rw p at h; still = λ q a. a; fewer = λ s e. e; avails = λ u h. h })
      bring-list (e ∷ es) rest l p k h =
          let a = bring-list es p.0 l p.2 k h in
          let b = bring-one e (wait_of p.0) (wait_of rest) (picked-map waiting e p.0 rest p.1) (unevict t F es k) a.kept in
          record { kept = b.kept; still = λ q i. b.still q (a.still q i); fewer = λ s i. a.fewer s (b.fewer s i); avails = λ u i. b.avails u (a.avails u i) }

      bring : (es rest : List Evicted) (k : ScratchAllocator) → Parts es rest k.evicted → Kept needs k → Back needs k (unevict t F es (with_evicted rest k))
      bring es rest k p h =
          subst (λ (l : List Evicted). BackAt needs (wait k) k.available k.cache (wait_of l) (unevict t F es (with_evicted rest k))) (sym (unevict-evicted t F es (with_evicted rest k)))
          (bring-list es rest k.evicted p (with_evicted rest k) h)

      pub bring-ok : (k : ScratchAllocator) → Kept needs k → Back needs k (unevict_all t F k)
      bring-ok k h = bring k.evicted [] k (all-parts k.evicted) h

      -- and none overlaps p afterwards
      pub record BackFor (p : Place) (k k' : ScratchAllocator) : Type 0 where
        pub back : Back needs k k'
        pub off : ApartW (wait k') p

      others_apart : (p : Place) (es : List Evicted) → ApartW (wait_of (filter (λ e. not (overlaps_evicted t F p e)) es)) p
      unfolding filter
      others_apart p [] = tt
      others_apart p (e ∷ es) = go (overlaps_evicted t F p e) (λ n u a b. meets-not (place_units t p) (reg_units t e.reg) n u (place-covers p u a) (place-covers (reg e.reg) u b)) (others_apart p es)
        where
          rest : List Evicted
          rest = filter (λ e. not (overlaps_evicted t F p e)) es

          go : (b : Bool) → (T (not b) → Apart t F tk p (reg e.reg)) → ApartW (wait_of rest) p → ApartW (wait_of (cond (not b) (e ∷ rest) rest)) p
          go true n on = on
          go false n on = (n tt, on)

      pub bring_for-ok : (p : Place) (k : ScratchAllocator) → Kept needs k → BackFor p k (unevict_for_reg t F p k)
      unfolding unevict_for_reg
      bring_for-ok p k h =
          let es = filter (overlaps_evicted t F p) k.evicted in
          let rest = filter (λ e. not (overlaps_evicted t F p e)) k.evicted in
          record {
            back = bring es rest k (filter_parts (overlaps_evicted t F p) k.evicted) h;
            off = subst (λ (l : List Evicted). ApartW (wait_of l) p) (sym (unevict-evicted t F es (with_evicted rest k))) (others_apart p k.evicted);
          }

      -- a register that is to be evicted has room
      room-ok : (r : ℕ) (k : ScratchAllocator) → Kept needs k → BackFor (reg r) k (make_room t F r k)
      unfolding make_room unevict_but
      room-ok r k h =
          let k' = unevict_for_reg t F (reg r) k in
          let a = bring_for-ok (reg r) k h in
          let b = bring (drop (pred F.kept) k'.evicted) (take (pred F.kept) k'.evicted) k' (drop-parts (pred F.kept) k'.evicted) a.back.kept in
          record {
            back = record { kept = b.kept; still = λ q i. b.still q (a.back.still q i); fewer = λ s i. a.back.fewer s (b.fewer s i); avails = λ u i. b.avails u (a.back.avails u i) };
            off = b.still (reg r) a.off;
          }

    -- a class of the bank's width: n words fit each of its registers
    pub record ClassOk (c n : ℕ) : Type 0 where
      pub len : (r : ℕ) → T (has_in (class_members t c) r) → T (fits t F (reg r) n)
      pub ordered : (r : ℕ) → T (has_in (allocation_order t c) r) → T (has_in (class_members t c) r)
      pub last-in : T (not (includes_spillslots t c)) → T (has_in (class_members t c) (last_in_order t c))
      pub last-plain : T (not (includes_spillslots t c)) → T (not (is_memory_reg t (last_in_order t c)))
      pub last-unit : T (not (includes_spillslots t c)) → (u : ℕ) × T (has_in (reg_units t (last_in_order t c)) u)

    -- a unit of an available register of the order
    pub record Free (c : ℕ) (bar : ℕ → Bool) (k : ScratchAllocator) (u : ℕ) : Type 0 where
      pub of : ℕ
      pub listed : T (has_in (allocation_order t c) of)
      pub its : T (has_in (reg_units t of) u)
      pub now : T (k.available u)
      pub unbarred : T (not (bar u))

    -- a slot just taken
    pub record Lone (needs : Needs) (sc : Place) (k : ScratchAllocator) (u : ℕ) : Type 0 where
      pub at : ℕ
      pub is : sc ≡ slot at
      pub its : u ≡ 512 + at
      pub above : F.slots ≤ at
      pub below : at < F.slots + k.cache.made
      pub full : Empty k at → ⊥
      pub apart : (p : Place) (v : ℕ) → needs p v → Apart t F tk p (slot at)

    -- those that wait once a slot is taken, which is none of theirs
    module _ (p : Cache) (x : Acquired) (ta : Taken t F p x) where
      taken-waits : (ws : Waits) → Every (Saved p) ws → Every (Saved x.cache) ws
      taken-waits ws o =
          every_map (Saved p) (Saved x.cache) (λ y q. record { plain = q.plain; above = q.above; below = omega (arith, ta.grows, q.below); tight = λ e. q.tight (ta.isnt y.slot e).0 }) ws o

      taken-other : (ws : Waits) → Every (Saved p) ws → WaitsIn ws x.slot → ⊥
      taken-other [] o e = e
      taken-other (y ∷ ws) o e = ⊎_elim (λ q. o.0.tight (subst (Loose t F p) q ta.was)) (taken-other ws o.1) e

    module _ (needs : Needs) (b c n : ℕ) (bar : ℕ → Bool) (ck : ClassOk c n) where
      pub record FoundOk (k : ScratchAllocator) (x : Found) : Type 0 where
        pub kept : Kept needs x.scratch
        pub len : T (fits t F x.place n)
        pub aside : Aside t F tk (wait x.scratch) (covers t F tk x.place)
        pub clean :
            (u : ℕ) → T (covers t F tk x.place u)
            → (Free c bar x.scratch u ⊎ Lone needs x.place x.scratch u) ⊎ (T (not (includes_spillslots t c)) × T (under t F tk (wait x.scratch) u) × T (not (is_memory t x.place)))
        pub kind : ((r : ℕ) × (x.place ≡ reg r) × T (has_in (class_members t c) r)) ⊎ ((s : ℕ) × (x.place ≡ slot s) × T (includes_spillslots t c))
        pub avails : (u : ℕ) → T (k.available u) → T (x.scratch.available u)
        pub still : (q : Place) → ApartW (wait k) q → (T (not (includes_spillslots t c)) → Apart t F tk q (reg (last_in_order t c))) → ApartW (wait x.scratch) q
        pub fewer : (s : ℕ) → Empty x.scratch s → Empty k s
        pub plain : T (not (includes_spillslots t c)) → ((r : ℕ) → T (has_in (allocation_order t c) r) → T (not (is_memory_reg t r))) → T (not (is_memory t x.place))

      reg-aside : (ws : Waits) (r : ℕ) → Aside t F tk ws (covers t F tk (reg r))
      unfolding covers
      reg-aside [] r = tt
      reg-aside (x ∷ ws) r = (tk.low r x.slot, reg-aside ws r)

      found-free : (m : ℕ) (k : ScratchAllocator) → Kept needs k → (r : ℕ) → T (usable t F bar k r) → T (has_in (allocation_order t c) r) → FoundOk k (record { place = reg r; position = m; scratch = k })
      unfolding covers
      found-free m k h r us o =
          record {
            kept = h;
            len = ck.len r (ck.ordered r o);
            aside = reg-aside (wait k) r;
            clean = λ u i.
                let a : T (k.available u && not (bar u)) = all-has (λ x. k.available x && not (bar x)) (reg_units t r) us u i in
                inl (inl (record { of = r; listed = o; its = i; now = (and_split (k.available u) (not (bar u)) a).0; unbarred = (and_split (k.available u) (not (bar u)) a).1 }));
            kind = inl (r, refl, ck.ordered r o);
            avails = λ u h. h;
            still = λ q a b. a;
            fewer = λ s e. e;
            plain = λ ns pl. pl r o;
          }

      -- the register that is evicted, whose units the view hides
      under-own : (x : Wait) (ws : Waits) (u : ℕ) → T (covers t F tk (reg x.reg) u) → T (under t F tk (x ∷ ws) u)
      unfolding covers under
      under-own x ws u d = or_l (has_in (reg_units t x.reg) u) (under t F tk ws u) d

      found-evict : (m : ℕ) (k₀ : ScratchAllocator) → T (not (includes_spillslots t c)) → Kept needs k₀ → All (FoundOk k₀) (evict_last t F m b c (make_room t F (last_in_order t c) k₀))
      unfolding evict_last covers
      found-evict m k₀ ns h₀ =
          all_then (Taken t F k.cache) (FoundOk k₀) (acquire t F (spillslot_size t b) k.cache) _ (take-ok t F (spillslot_size t b) k.cache h.room.cache-ok) next
        where
          k : ScratchAllocator
          k = make_room t F (last_in_order t c) k₀

          bk : BackFor needs (reg (last_in_order t c)) k₀ k
          bk = room-ok needs (last_in_order t c) k₀ h₀

          h : Kept needs k
          h = bk.back.kept

          next : (x : Acquired) → Taken t F k.cache x
              → FoundOk k₀
              (record {
                place = reg (last_in_order t c);
                position = m;
                scratch = with_evicted (record { reg = last_in_order t c; slot = x.slot; size = spillslot_size t b } ∷ k.evicted) (push (EmergencyReload (last_in_order t c) x.slot) (with_cache x.cache k));
              })
          next x ta =
              record {
                kept =
                    record {
                      sound = reload t F tk j (last_in_order t c) x.slot (wait k) k.edits needs h.sound;
                      room =
                          record {
                            inside = h.room.inside;
                            spare = h.room.spare;
                            cache-ok = ta.ok;
                            waits = (
                              (record { plain = ck.last-plain ns; above = ta.above; below = ta.below; tight = λ e. (ta.isnt x.slot e).1 refl }, taken-waits k.cache x ta (wait k) h.room.waits.0),
                              (away (wait k) bk.off h.room.waits.0, h.room.waits.1),
                            );
                            empty = λ p v n s e. h.room.empty p v n s (was s e);
                          };
                    };
                len = ck.len (last_in_order t c) (ck.last-in ns);
                aside = reg-aside (new ∷ wait k) (last_in_order t c);
                clean = λ u d. inr (ns, under-own new (wait k) u d, ck.last-plain ns);
                kind = inl (last_in_order t c, refl, ck.last-in ns);
                avails = bk.back.avails;
                still = λ q a d. (d ns, bk.back.still q a);
                fewer = λ s e. bk.back.fewer s (was s e);
                plain = λ _ pl. ck.last-plain ns;
              }
            where
              new : Wait
              new = record { reg = last_in_order t c; slot = x.slot }

              was : (s : ℕ) → EmptyIn x.cache (new ∷ wait k) s → Empty k s
              was s (inl e) = inl (ta.isnt s e).0
              was s (inr e) = ⊎_elim (λ q. inl (subst (Loose t F k.cache) (sym q) ta.was)) inr e

              -- a register with a unit, apart from those that wait, is none of them
              another : (r : ℕ) → Apart t F tk (reg (last_in_order t c)) (reg r) → last_in_order t c ≡ r → ⊥
              another r a e = let u = ck.last-unit ns in a u.0 u.1 (subst (λ (y : ℕ). T (has_in (reg_units t y) u.0)) e u.1)

              away : (ws : Waits) → ApartW ws (reg (last_in_order t c)) → Every (Saved k.cache) ws → Every (Away t F tk new) ws
              away [] a o = tt
              away (y ∷ ws) a o = (record { apart = a.0; regs = another y.reg a.0; slots = λ e. o.0.tight (subst (Loose t F k.cache) e ta.was) }, away ws a.1 o.1)

      found-slot : (m : ℕ) (k : ScratchAllocator) → Kept needs k → T (includes_spillslots t c) → All (FoundOk k) (slot_scratch t F m b k)
      unfolding slot_scratch fits covers
      found-slot m k h sl =
          all_then (Taken t F k.cache) (FoundOk k) (acquire t F (spillslot_size t b) k.cache) _ (take-ok t F (spillslot_size t b) k.cache h.room.cache-ok) next
        where
          next : (x : Acquired) → Taken t F k.cache x → FoundOk k (record { place = slot x.slot; position = m; scratch = with_cache x.cache k })
          next x ta =
              record {
                kept =
                    record {
                      sound = h.sound;
                      room =
                          record {
                            inside = h.room.inside;
                            spare = h.room.spare;
                            cache-ok = ta.ok;
                            waits = (taken-waits k.cache x ta (wait k) h.room.waits.0, h.room.waits.1);
                            empty = λ p v n s e. h.room.empty p v n s (was s e);
                          };
                    };
                len = tt;
                aside = aside (wait k) h.room.waits.0;
                clean = λ u d.
                    inl (inr (record {
                      at = x.slot;
                      is = refl;
                      its = eqb→eq u (512 + x.slot) d;
                      above = ta.above;
                      below = ta.below;
                      full = ⊎_elim (λ e. (ta.isnt x.slot e).1 refl) (taken-other k.cache x ta (wait k) h.room.waits.0);
                      apart = λ p v n. h.room.empty p v n x.slot (inl ta.was);
                    }));
                kind = inr (x.slot, refl, sl);
                avails = λ u h. h;
                still = λ q a b. a;
                fewer = was;
                plain = λ ns _. absurd (T_not (includes_spillslots t c) ns sl);
              }
            where
              was : (s : ℕ) → Loose t F x.cache s ⊎ WaitsIn (wait k) s → Empty k s
              was s (inl e) = inl (ta.isnt s e).0
              was s (inr e) = inr e

              aside : (ws : Waits) → Every (Saved k.cache) ws → Aside t F tk ws (covers t F tk (slot x.slot))
              aside ws o =
                  every_map (Saved k.cache) (λ y. T (not (covers t F tk (slot x.slot) (512 + y.slot))))
                  (λ y q. not_T (eqb (512 + y.slot) (512 + x.slot)) (λ e. q.tight (subst (Loose t F k.cache) (sym (add_left_cancel 512 (eqb→eq (512 + y.slot) (512 + x.slot) e))) ta.was))) ws o

      -- a register that is held: the view hides its units
      abbrev Held : Waits → Evicted → Type 0
      Held ws e = T (not (is_memory_reg t e.reg)) × ((u : ℕ) → T (covers t F tk (reg e.reg) u) → T (under t F tk ws u))

      held_all : (p : Cache) (es : List Evicted) → Every (Saved p) (wait_of es) → Every (Held (wait_of es)) es
      unfolding under
      held_all p [] o = tt
      held_all p (e ∷ es) o = (
        (o.0.plain, under-own (waiting e) (wait_of es)),
        every_map (Held (wait_of es)) (Held (wait_of (e ∷ es))) (λ x h. (h.0, λ u d. or_r (has_in (reg_units t e.reg) u) (under t F tk (wait_of es) u) (h.1 u d))) es (held_all p es o.1),
      )

      found-held : (m : ℕ) (k : ScratchAllocator) → Kept needs k → T (not (includes_spillslots t c)) → (es : List Evicted) → Every (Held (wait k)) es → All (FoundOk k) (reuse t F es m b c k)
      unfolding reuse
      found-held m k h ns [] hs = found-evict m k ns h
      found-held m k h ns (x ∷ es) hs =
          if (All (FoundOk k)) (has_in (class_members t c) x.reg) (some (record { place = reg x.reg; position = m; scratch = k })) (reuse t F es m b c k)
          (λ i. record {
            kept = h;
            len = ck.len x.reg i;
            aside = reg-aside (wait k) x.reg;
            clean = λ u d. inr (ns, hs.0.1 u d, hs.0.0);
            kind = inl (x.reg, refl, i);
            avails = λ u h. h;
            still = λ q a b. a;
            fewer = λ y i. i;
            plain = λ _ pl. hs.0.0;
          })
          (λ _. found-held m k h ns es hs.1)

      pub search-ok : (k : ScratchAllocator) → Kept needs k → All (FoundOk k) (get_scratch_reg t F b c bar k)
      unfolding get_scratch_reg or_scratch
      search-ok k h = all_map (FoundOk k₁) (FoundOk k) (get_scratch_reg t F b c bar k) unmet (go (find (usable t F bar k) (allocation_order t c)) (find-all (usable t F bar k) (allocation_order t c)))
        where
          m : ℕ
          m = searched_to t F c bar k

          -- k with the position met
          k₁ : ScratchAllocator
          k₁ = meeting m k

          go : (o : Option ℕ) → All (λ r. T (usable t F bar k r) × T (has_in (allocation_order t c) r)) o → All (FoundOk k₁) (or_scratch t F o m b c k₁)
          go (some r) a = found-free m k₁ h r a.0 a.1
          go none a = if (All (FoundOk k₁)) (includes_spillslots t c) (slot_scratch t F m b k₁) (reuse t F k.evicted m b c k₁) (found-slot m k₁ h) (λ ns. found-held m k₁ h ns k.evicted (held_all k.cache k.evicted h.room.waits.0))

          unmet : (x : Found) → FoundOk k₁ x → FoundOk k x
          unmet x f =
              record { kept = f.kept; len = f.len; aside = f.aside; clean = f.clean; kind = f.kind; avails = f.avails; still = f.still; fewer = f.fewer; plain = f.plain }

    pub clear_of : (ws : Waits) (p : Place) → ApartW ws p → ((s : ℕ) → WaitsIn ws s → Apart t F tk p (slot s)) → Clear t F tk ws p
    clear_of [] p a f = tt
    clear_of (x ∷ ws) p a f = ((a.0, f x.slot (inl refl)), clear_of ws p a.1 (λ s e. f s (inr e)))

    pub lone-memory : (needs : Needs) (sc : Place) (k : ScratchAllocator) (u : ℕ) → Lone needs sc k u → T (not (is_memory t sc)) → ⊥
    lone-memory needs sc k u l np = subst (λ (q : Place). T (not (is_memory t q))) l.is np

    pub free-covers : (c : ℕ) (bar : ℕ → Bool) (k : ScratchAllocator) (u : ℕ) (fr : Free c bar k u) → T (covers t F tk (reg fr.of) u)
    unfolding covers
    free-covers c bar k u fr = fr.its

    -- an available unit is no need's
    pub kept_free : (needs : Needs) (c : ℕ) (bar : ℕ → Bool) (k : ScratchAllocator) (u : ℕ) → Room needs k → Free c bar k u → (p : Place) (y : ℕ) → needs p y → T (covers t F tk p u) → ⊥
    unfolding covers
    kept_free needs c bar k u h fr (reg r) y n d = h.spare r y n u d fr.now
    kept_free needs c bar k u h fr (slot s) y n d = T_not (has_in (reg_units t fr.of) (512 + s)) (tk.low fr.of s) (subst (λ (z : ℕ). T (has_in (reg_units t fr.of) z)) (eqb→eq u (512 + s) d) fr.its)

    -- a slot that holds nothing is put back
    pub give-room : (z : ℕ) (needs : Needs) (k : ScratchAllocator) (s : ℕ) → Room needs k → F.slots ≤ s → (Empty k s → ⊥) → ((p : Place) (x : ℕ) → needs p x → Apart t F tk p (slot s))
        → Room needs (with_cache (release t F z s k.cache) k)
    give-room z needs k s h ab full out =
        record {
          inside = h.inside;
          spare = h.spare;
          cache-ok = give-ok t F z s k.cache ab below (λ e. full (inl e)) h.cache-ok;
          waits = (given-waits z s k.cache (wait k) h.waits.0 (λ e. full (inr e)), h.waits.1);
          empty = λ p x n y.
              ⊎_elim (λ e. ⊎_elim (λ q. subst (λ (b : ℕ). Apart t F tk p (slot b)) (sym q) (out p x n)) (λ q. h.empty p x n y (inl q)) (loose-give t F z s k.cache y e)) (λ e. h.empty p x n y (inr e));
        }
      where
        below : s < F.slots + k.cache.made
        below = go (dec_lt s (F.slots + k.cache.made))
          where
            go : Dec (s < F.slots + k.cache.made) → s < F.slots + k.cache.made
            go (yes a) = a
            go (no g) = absurd (full (inl (inr (omega arith))))

-- What the machine counts as held: each register that waits holds its slot's list. Those that wait share no unit and no slot, so that the order
-- in which they were saved does not matter.
use mathlib.Core.Path.{◌≡◌, refl, sym, ◌∙◌, ap, fun_ext}
use mathlib.Core.Bool.{Bool, true, false, not, ◌&&◌, ◌||◌, cond}
use mathlib.Core.List.{List, [], ◌∷◌, map}
use mathlib.Core.Logic.{⊎_elim}
use Prim.Native.Nat.{ℕ, ◌+◌}
use native.Mathlib.Nat.{add_left_cancel}
use lib.Dec.{T, not_T, eqb, eqb→eq, eqb_refl}
use lib.ListN.{length, length-map}
use Rattle.entity.specs.Place.{Place, reg, slot}
use Rattle.reginfo.specs.RegInfo.{RegInfo, reg_units, is_memory_reg}
use Rattle.function.specs.Function.{Function}
use Rattle.rules.specs.Edit.{filter}
use Rattle.rules.proofs.Steps.{Every, every_map, updated-same, updated-other}
use Rattle.rules.proofs.Parts.{Picked, here, later, every-picked, every-put}
use Rattle.machine.specs.Machine.{Memory, in_slot, Waiting, put, read, write, counted, without}
use Rattle.machine.proofs.Tests.{has_in, or_split, or_case}
use Rattle.machine.proofs.Memory.{TargetOk, Off, covers, Apart, write-off, read_off, map-cong, put_other, put-cong, put-comm, put-hit, put_self, plain-write, plain-read, plain-lists}
use Rattle.machine.proofs.Run.{Wait, Waits, as-held, held, Orders, nobody, more, as-listed, orders-every, orders-insert, view}

not-and : (a b : Bool) → T (not (a && not b)) → T (not b) → T (not a)
not-and true true h k = absurd k
not-and true false h k = h
not-and false b h k = tt

-- a reload takes its register out of the list, and a save finds it in none
without_other : (m : Memory) (r : ℕ) (w : Waits) → Every (λ y. r ≡ y.reg → ⊥) w → without r (held m w) ≡ held m w
unfolding filter
without_other m r [] h = refl
without_other m r (y ∷ w) h = go (eqb y.reg r) (eqb→eq y.reg r) (without_other m r w h.1)
  where
    go : (b : Bool) → (T b → y.reg ≡ r) → without r (held m w) ≡ held m w → cond {A = List Waiting} (not b) (as-held m y ∷ without r (held m w)) (without r (held m w)) ≡ held m (y ∷ w)
    go true e on = absurd (h.0 (sym (e tt)))
    go false e on = ap (as-held m y ∷◌) on

without-picked : (n : Memory) (x : Wait) (w v : Waits) → Picked x w v → Every (λ y. x.reg ≡ y.reg → ⊥) v → without x.reg (held n w) ≡ held n v
unfolding filter
without-picked n x _ v here h = go (eqb x.reg x.reg) (eqb_refl x.reg)
  where
    go : (b : Bool) → T b → cond {A = List Waiting} (not b) (as-held n x ∷ without x.reg (held n v)) (without x.reg (held n v)) ≡ held n v
    go true e = without_other n x.reg v h
    go false e = absurd e
without-picked n x _ _ (later {y = y} {l = l} {m = m} p) h = go (eqb y.reg x.reg) (eqb→eq y.reg x.reg) (without-picked n x l m p h.1)
  where
    go : (b : Bool) → (T b → y.reg ≡ x.reg) → without x.reg (held n l) ≡ held n m → cond {A = List Waiting} (not b) (as-held n y ∷ without x.reg (held n l)) (without x.reg (held n l)) ≡ held n (y ∷ m)
    go true e on = absurd (h.0 (sym (e tt)))
    go false e on = ap (as-held n y ∷◌) on

module _ (t : RegInfo) (F : Function) (tk : TargetOk t) where
  -- two that wait: no unit and no slot is both's
  pub record Away (x y : Wait) : Type 0 where
    pub apart : Apart t F tk (reg x.reg) (reg y.reg)
    pub regs : x.reg ≡ y.reg → ⊥
    pub slots : x.slot ≡ y.slot → ⊥

  away-comm : (x y : Wait) → Away x y → Away y x
  away-comm x y a = record { apart = λ u h k. a.apart u k h; regs = λ e. a.regs (sym e); slots = λ e. a.slots (sym e) }

  abbrev pub Spread : Waits → Type 0
  Spread [] = Unit {0}
  Spread (x ∷ ws) = Every (Away x) ws × Spread ws

  -- one of them, and the others
  pub spread_picked : (x : Wait) (zs ws : Waits) → Picked x zs ws → Spread zs → Every (Away x) ws × Spread ws
  spread_picked x _ ws here h = h
  spread_picked x _ _ (later {y = y} {l = l} {m = m} p) h =
      let r = spread_picked x l m p h.1 in
      let q = every-picked (Away y) x l m p h.0 in
      ((away-comm y x q.0, r.0), (q.1, r.1))

  -- none that waits is memory
  abbrev pub Plain : Waits → Type 0
  Plain ws = Every (λ x. T (not (is_memory_reg t x.reg))) ws

  -- each slot's list fits its register
  abbrev Full : Waits → Memory → Type 0
  Full ws m = Every (λ x. T (eqb (length (in_slot m x.slot)) (length (reg_units t x.reg)))) ws

  pub record Ready (ws : Waits) (m : Memory) : Type 0 where
    pub plain : Plain ws
    pub spread : Spread ws
    pub full : Full ws m

  pub ready-none : (m : Memory) → Ready [] m
  ready-none m = record { plain = tt; spread = tt; full = tt }

  -- the unit is of a register that waits
  unfoldable pub under : Waits → ℕ → Bool
  under [] u = false
  under (x ∷ ws) u = has_in (reg_units t x.reg) u || under ws u

  -- the units of c that are seen
  abbrev pub shown : Waits → (ℕ → Bool) → ℕ → Bool
  shown ws c u = c u && not (under ws u)

  -- the place shares nothing with the registers that wait, nor with their slots
  abbrev pub Clear : Waits → Place → Type 0
  Clear ws p = Every (λ x. Apart t F tk p (reg x.reg) × Apart t F tk p (slot x.slot)) ws

  -- the place is not the slot of a register that waits
  abbrev pub Aside : Waits → (ℕ → Bool) → Type 0
  Aside ws c = Every (λ x. T (not (c (512 + x.slot)))) ws

  pub clear-aside : (ws : Waits) (p : Place) → Clear ws p → Aside ws (covers t F tk p)
  unfolding covers
  clear-aside ws p h =
      every_map (λ x. Apart t F tk p (reg x.reg) × Apart t F tk p (slot x.slot)) (λ x. T (not (covers t F tk p (512 + x.slot))))
      (λ x a. not_T (covers t F tk p (512 + x.slot)) (λ k. a.1 (512 + x.slot) k (eqb_refl (512 + x.slot)))) ws h

  pub clear-read : (ws : Waits) (m : Memory) (p : Place) → Clear ws p → read t F (view t F ws m) p ≡ read t F m p
  unfolding counted
  clear-read [] m p h = refl
  clear-read (x ∷ ws) m p h =
      read_off t F tk (covers t F tk (reg x.reg)) (write t F (reg x.reg) (in_slot m x.slot) (view t F ws m)) (view t F ws m) (write-off t F tk (reg x.reg) (in_slot m x.slot) (view t F ws m)) p h.0.0
      ∙ clear-read ws m p h.1

  -- the words, where each of these registers counts as holding its slot's list
  over : Waits → (ℕ → List ℕ) → (ℕ → ℕ) → ℕ → ℕ
  over [] l f = f
  over (x ∷ ws) l f = put (reg_units t x.reg) (l (512 + x.slot)) (over ws l f)

  abbrev over_memory : Waits → Memory → Memory
  over_memory ws m = record { word = over ws m.lists m.word; lists = m.lists }

  view-over : (ws : Waits) (m : Memory) → Plain ws → view t F ws m ≡ over_memory ws m
  unfolding counted over
  view-over [] m h = refl
  view-over (x ∷ ws) m h = ap (write t F (reg x.reg) (in_slot m x.slot)) (view-over ws m h.1) ∙ plain-write t F tk x.reg h.0 (in_slot m x.slot) (over_memory ws m)

  -- what a register shares no unit with
  away-under : (x : Wait) (ws : Waits) → Every (Away x) ws → (u : ℕ) → T (has_in (reg_units t x.reg) u) → T (not (under ws u))
  unfolding under covers
  away-under x [] h u k = tt
  away-under x (y ∷ ws) h u k = go (has_in (reg_units t y.reg) u) (λ i. h.0.apart u k i) (away-under x ws h.1 u k)
    where
      go : (b : Bool) → (T b → ⊥) → T (not (under ws u)) → T (not (b || under ws u))
      go true d on = absurd (d tt)
      go false d on = on

  over-outside : (ws : Waits) (l : ℕ → List ℕ) (f : ℕ → ℕ) (u : ℕ) → T (not (under ws u)) → over ws l f u ≡ f u
  unfolding over under
  over-outside [] l f u h = refl
  over-outside (x ∷ ws) l f u h =
      let s = or_split (has_in (reg_units t x.reg) u) (under ws u) h in
      put_other (reg_units t x.reg) (l (512 + x.slot)) (over ws l f) u s.0 ∙ over-outside ws l f u s.1

  -- in another order
  over-picked : (x : Wait) (zs ws : Waits) (l : ℕ → List ℕ) (f : ℕ → ℕ) → Picked x zs ws → Every (Away x) ws → (u : ℕ) → over zs l f u ≡ over (x ∷ ws) l f u
  unfolding over covers
  over-picked x _ ws l f here h u = refl
  over-picked x _ _ l f (later {y = y} {l = zs} {m = ws} p) h u =
      put-cong (reg_units t y.reg) (l (512 + y.slot)) (over zs l f) (put (reg_units t x.reg) (l (512 + x.slot)) (over ws l f)) u (over-picked x zs ws l f p h.1 u)
      ∙ put-comm (reg_units t y.reg) (l (512 + y.slot)) (reg_units t x.reg) (l (512 + x.slot)) (over ws l f) u (λ a b. h.0.apart u b a)

  over-order : (w ws : Waits) (l : ℕ → List ℕ) (f : ℕ → ℕ) → Orders w ws → Spread ws → (u : ℕ) → over w l f u ≡ over ws l f u
  unfolding over
  over-order _ _ l f nobody h u = refl
  over-order w _ l f (more {x = x} {v = v} {ws = ws} p o) h u =
      over-picked x w v l f p (orders-every (Away x) v ws o h.0) u ∙ put-cong (reg_units t x.reg) (l (512 + x.slot)) (over v l f) (over ws l f) u (over-order v ws l f o h.1 u)

  pub same_view : (w ws : Waits) (m : Memory) → Orders w ws → Plain ws → Spread ws → view t F w m ≡ view t F ws m
  same_view w ws m o p s =
      view-over w m (orders-every (λ x. T (not (is_memory_reg t x.reg))) w ws o p)
      ∙ ap (λ (f : ℕ → ℕ). record { word = f; lists = m.lists }) (fun_ext (over-order w ws m.lists m.word o s))
      ∙ sym (view-over ws m p)

  -- a write leaves the lists under a register that waits
  pub under-lists : (ws : Waits) (p : Place) (bs : List ℕ) (m : Memory) → Plain ws → (u : ℕ) → T (under ws u) → (write t F p bs m).lists u ≡ m.lists u
  unfolding under
  under-lists [] p bs m k u h = absurd h
  under-lists (x ∷ ws) p bs m k u h =
      ⊎_elim (plain-lists t F tk x.reg k.0 p bs m u) (under-lists ws p bs m k.1 u) (or_case (has_in (reg_units t x.reg) u) (under ws u) h)

  -- what changes off c changes in the view off what is shown of c
  over-off : (ws : Waits) (c : ℕ → Bool) (a b : Memory) → Aside ws c → Full ws b → Off c a b → (u : ℕ) → T (not (shown ws c u)) → over ws a.lists a.word u ≡ over ws b.lists b.word u
  unfolding over under
  over-off [] c a b h k o u n = o.words u (not-and (c u) false n tt)
  over-off (x ∷ ws) c a b h k o u n =
      rw (o.lists (512 + x.slot) h.0)
      (go (has_in us u) (put-hit us bs (over ws a.lists a.word) (over ws b.lists b.word) u) n (λ q. over-off ws c a b h.1 k.1 o u q))
    where
      us : List ℕ
      us = reg_units t x.reg

      bs : List ℕ
      bs = in_slot b x.slot

      go : (i : Bool) → (T i → length bs ≡ length us → put us bs (over ws a.lists a.word) u ≡ put us bs (over ws b.lists b.word) u) → T (not (c u && not (i || under ws u)))
          → (T (not (shown ws c u)) → over ws a.lists a.word u ≡ over ws b.lists b.word u) → put us bs (over ws a.lists a.word) u ≡ put us bs (over ws b.lists b.word) u
      go true hit q on = hit tt (eqb→eq (length bs) (length us) k.0)
      go false hit q on = put-cong us bs (over ws a.lists a.word) (over ws b.lists b.word) u (on q)

  pub view-off : (ws : Waits) (c : ℕ → Bool) (a b : Memory) → Aside ws c → Ready ws b → ((u : ℕ) → T (under ws u) → a.lists u ≡ b.lists u) → Off c a b → Off (shown ws c) (view t F ws a) (view t F ws b)
  view-off ws c a b h k q o =
      rw (view-over ws a k.plain, view-over ws b k.plain)
      (record { words = over-off ws c a b h k.full o; lists = λ u n. lists u (under ws u) (q u) n })
    where
      lists : (u : ℕ) (i : Bool) → (T i → a.lists u ≡ b.lists u) → T (not (c u && not i)) → a.lists u ≡ b.lists u
      lists u true e n = e tt
      lists u false e n = o.lists u (not-and (c u) false n tt)

  full-off : (ws : Waits) (c : ℕ → Bool) (a b : Memory) → Aside ws c → Off c a b → Full ws b → Full ws a
  full-off [] c a b h o k = tt
  full-off (x ∷ ws) c a b h o k = (rw (o.lists (512 + x.slot) h.0) k.0, full-off ws c a b h.1 o k.1)

  -- what was saved stays saved
  pub held-off : (ws : Waits) (c : ℕ → Bool) (a b : Memory) → Aside ws c → Off c a b → held b ws ≡ held a ws
  held-off [] c a b h o = refl
  held-off (x ∷ ws) c a b h o = rw (o.lists (512 + x.slot) h.0, held-off ws c a b h.1 o)

  pub ready-off : (ws : Waits) (c : ℕ → Bool) (a b : Memory) → Aside ws c → Off c a b → Ready ws b → Ready ws a
  ready-off ws c a b h o k = record { plain = k.plain; spread = k.spread; full = full-off ws c a b h o k.full }

  -- one of those that wait is brought back: the view stays
  module _ (x : Wait) (ws : Waits) (m : Memory) (k : Ready (x ∷ ws) m) where
    abbrev pub reloaded : Memory
    reloaded = write t F (reg x.reg) (in_slot m x.slot) m

    over-in : (zs : Waits) (l : ℕ → List ℕ) (bs : List ℕ) (f : ℕ → ℕ) → Every (Away x) zs → (u : ℕ) → put (reg_units t x.reg) bs (over zs l f) u ≡ over zs l (put (reg_units t x.reg) bs f) u
    unfolding over covers
    over-in [] l bs f h u = refl
    over-in (y ∷ zs) l bs f h u =
        put-comm (reg_units t x.reg) bs (reg_units t y.reg) (l (512 + y.slot)) (over zs l f) u (h.0.apart u)
        ∙ put-cong (reg_units t y.reg) (l (512 + y.slot)) (put (reg_units t x.reg) bs (over zs l f)) (over zs l (put (reg_units t x.reg) bs f)) u (over-in zs l bs f h.1 u)

    reloaded-is : reloaded ≡ record { word = put (reg_units t x.reg) (in_slot m x.slot) m.word; lists = m.lists }
    reloaded-is = plain-write t F tk x.reg k.plain.0 (in_slot m x.slot) m

    pub reload-view : view t F (x ∷ ws) m ≡ view t F ws reloaded
    unfolding over
    reload-view =
        view-over (x ∷ ws) m k.plain
        ∙ ap (λ (f : ℕ → ℕ). record { word = f; lists = m.lists }) (fun_ext (over-in ws m.lists (in_slot m x.slot) m.word k.spread.0))
        ∙ sym (ap (view t F ws) reloaded-is ∙ view-over ws record { word = put (reg_units t x.reg) (in_slot m x.slot) m.word; lists = m.lists } k.plain.1)

    pub reload-ready : Ready ws reloaded
    reload-ready = record { plain = k.plain.1; spread = k.spread.1; full = rw reloaded-is k.full.1 }

    pub reload-without : (w v : Waits) → Picked x w v → Orders v ws → without x.reg (held m w) ≡ held reloaded v
    reload-without w v p o = rw reloaded-is (without-picked m x w v p (orders-every (λ y. x.reg ≡ y.reg → ⊥) v ws o (every_map (Away x) (λ y. x.reg ≡ y.reg → ⊥) (λ y a. a.regs) ws k.spread.0)))

  -- one is saved that does not wait yet: its units count as what they hold
  module _ (x : Wait) (zs ws : Waits) (p : Picked x zs ws) (pl : Plain zs) (sp : Spread zs) (m : Memory) (k : Ready ws m) where
    abbrev pub after : Memory
    after = write t F (slot x.slot) (read t F m (reg x.reg)) m

    abbrev us : List ℕ
    us = reg_units t x.reg

    away : Every (Away x) ws
    away = (spread_picked x zs ws p sp).0

    bare : T (not (is_memory_reg t x.reg))
    bare = (every-picked (λ x. T (not (is_memory_reg t x.reg))) x zs ws p pl).0

    slot-holds : in_slot after x.slot ≡ map m.word us
    unfolding write
    slot-holds = updated-same (512 + x.slot) (read t F m (reg x.reg)) m.lists ∙ plain-read t F tk x.reg bare m

    slot-words : after.word ≡ m.word
    unfolding write
    slot-words = refl

    slot-other : (y : Wait) → Away x y → in_slot after y.slot ≡ in_slot m y.slot
    unfolding write
    slot-other y a = updated-other (512 + x.slot) (read t F m (reg x.reg)) m.lists (512 + y.slot) (λ e. a.slots (sym (add_left_cancel 512 e)))

    over-slots : (vs : Waits) → Every (Away x) vs → over vs after.lists m.word ≡ over vs m.lists m.word
    unfolding over
    over-slots [] h = refl
    over-slots (y ∷ vs) h = rw (slot-other y h.0, over-slots vs h.1)

    over-self : (u : ℕ) → put us (map m.word us) (over ws m.lists m.word) u ≡ over ws m.lists m.word u
    over-self u =
        ap (λ (l : List ℕ). put us l (over ws m.lists m.word) u)
        (map-cong us m.word (over ws m.lists m.word) (λ z h. sym (over-outside ws m.lists m.word z (away-under x ws away z h))))
        ∙ put_self us (over ws m.lists m.word) u

    pub spill-off : Off (covers t F tk (slot x.slot)) (view t F zs after) (view t F ws m)
    unfolding over
    spill-off =
        rw (← same_view (x ∷ ws) zs after (orders-insert x ws zs ws p (as-listed ws)) pl sp, view-over (x ∷ ws) after (bare, (every-picked (λ x. T (not (is_memory_reg t x.reg))) x zs ws p pl).1), view-over ws m k.plain)
        (record { words = λ u _. words u; lists = (write-off t F tk (slot x.slot) (read t F m (reg x.reg)) m).lists })
      where
        words : (u : ℕ) → put us (in_slot after x.slot) (over ws after.lists after.word) u ≡ over ws m.lists m.word u
        words u = rw (slot-holds, slot-words, over-slots ws away) (over-self u)

    pub spill-ready : Ready zs after
    spill-ready =
        record {
          plain = pl;
          spread = sp;
          full =
              every-put (λ y. T (eqb (length (in_slot after y.slot)) (length (reg_units t y.reg)))) x zs ws p (rw (slot-holds, length-map) (eqb_refl (length us)))
              (still ws away k.full);
        }
      where
        still : (vs : Waits) → Every (Away x) vs → Full vs m → Full vs after
        still [] h q = tt
        still (y ∷ vs) h q = (rw (slot-other y h.0) q.0, still vs h.1 q.1)

    slot-saved : in_slot after x.slot ≡ read t F m (reg x.reg)
    unfolding write
    slot-saved = updated-same (512 + x.slot) (read t F m (reg x.reg)) m.lists

    held-other : (vs : Waits) → Every (Away x) vs → held m vs ≡ held after vs
    held-other [] h = refl
    held-other (y ∷ vs) h = rw (slot-other y h.0, held-other vs h.1)

    -- and it is listed with what its slot then holds
    pub spill-without : (w : Waits) → Orders w ws → ◌≡◌ {A = List Waiting} (record { reg = x.reg; slot = x.slot; words = read t F m (reg x.reg) } ∷ without x.reg (held m w)) (held after (x ∷ w))
    spill-without w o =
        rw (slot-saved, without_other m x.reg w (orders-every (λ y. x.reg ≡ y.reg → ⊥) w ws o (every_map (Away x) (λ y. x.reg ≡ y.reg → ⊥) (λ y a. a.regs) ws away)), held-other w (orders-every (Away x) w ws o away))

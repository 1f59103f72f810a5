-- What the acceptance of a target, a function and a patch leaves known, as plain facts of units, places and kept moves.
use Prim.Native.Nat.{ℕ, zero, suc, ◌+◌, ◌<◌, ◌≤◌}
use mathlib.Core.Path.{◌≡◌, refl, sym, ap, ◌∙◌}
use mathlib.Core.Bool.{Bool, true, false, true≢false, false≢true}
use mathlib.Core.List.{List, [], ◌∷◌, ◌++◌, map, reverse, reverse_aux, Memᴰ}
use mathlib.Core.Option.{Option, none, some}
use native.Mathlib.Omega.{arith}
use lib.Dec.{eqb, ltb}
use lib.ListN.{length, get_or, length-append, length-map, get_or-append, get_or-map, get_or-eq_default}
use lib.Seq.{get_or-append-add}
use borrow.Author.Tests.{eq-eqb, eqb-true, ltb-true, ltb-false}
use Rattle.entity.specs.Logic.{or, no, any_in, has, meets, twice}
use Rattle.entity.specs.Place.{Place, reg, slot}
use Rattle.entity.proofs.Laws.{or-false, and-false, never_true, any_at, has_get_d}
use Rattle.reginfo.specs.RegInfo.{Reg, RegInfo, no_reg, num_regs, num_classes, reg_memory, bank_for_reg, reg_units, is_memory_reg, bank_for_class, class_members, includes_spillslots, last_in_order, place_units, overlap, of_bank}
use Rattle.reginfo.specs.Refused as target
use Rattle.reginfo.proofs.Laws.{overlap-comm}
use Rattle.reginfo.proofs.Accepted.{width_fits, unit-low, member-fits, units-once, memory-apart, member-bank}
use Rattle.function.specs.Function.{Function, num_values, value_bank, remat_class}
use Rattle.function.specs.Refused as function
use Rattle.function.proofs.Laws.{class-there, class-of-bank}
use Rattle.rules.specs.Scratch.{units_of_reg}
use Rattle.rules.specs.Order.{KeptMove, Remat, no_move, source, dest, value, writer_from, writers_of, writers, cycle_move_sources, no_remat}
use Rattle.rules.specs.Patch.{Patch, Sorted, destinations, names_place, free_destination, last_overlaps}
use Rattle.rules.specs.Sorted.{RematOk, SortedOk}
use Rattle.rules.proofs.Steps.{every-has}
use Rattle.rules.proofs.Writers.{writers-low}
use Rattle.machine.specs.Machine.{fits}
use Rattle.machine.specs.Claim.{Contents}

-- tests of lists
or-true : (a b : Bool) → b ≡ true → or a b ≡ true
or-true true b h = refl
or-true false b h = h

pub any-true : {A : Type 0} (p : A → Bool) (l : List A) (i : ℕ) (d : A) → i < length l → p (get_or l i d) ≡ true → any_in p l ≡ true
unfolding any_in
any-true p [] i d h e = absurd (omega arith)
any-true p (x ∷ l) zero d h e = rw e
any-true p (x ∷ l) (suc i) d h e = or-true (p x) (any_in p l) (any-true p l i d (omega arith) e)

-- an element stands at an index
pub mem-at : {A : Type 0} {x : A} {l : List A} (d : A) → Memᴰ x l → (i : ℕ) × (i < length l) × (get_or l i d ≡ x)
mem-at d (Memᴰ.head e) = (0, omega arith, sym e)
mem-at d (Memᴰ.tail m) = let w = mem-at d m in (suc w.0, omega (arith, w.1), w.2)

pub has-cases : (u x : ℕ) (l : List ℕ) {A : Type 0} → has u (x ∷ l) ≡ true → (u ≡ x → A) → (has u l ≡ true → A) → A
unfolding has
has-cases u x l {A} h here there = go (eqb u x) refl h
  where
    go : (b : Bool) → eqb u x ≡ b → or b (has u l) ≡ true → A
    go true q h = here (eqb-true u x q)
    go false q h = there h

pub meets-false : (l m : List ℕ) → meets l m ≡ false → (u : ℕ) → has u l ≡ true → has u m ≡ true → ⊥
unfolding meets has
meets-false [] m e u h k = false≢true h
meets-false (x ∷ l) m e u h k =
    let s = or-false (has x m) (meets l m) e in
    has-cases u x l h (λ q. false≢true (sym s.0 ∙ ap (λ (y : ℕ). has y m) (sym q) ∙ k)) (λ r. meets-false l m s.1 u r k)

has-onto : (k : ℕ) (l r : List ℕ) → has k (reverse_aux l r) ≡ or (has k l) (has k r)
unfolding has
has-onto k [] r = refl
has-onto k (x ∷ l) r = has-onto k l (x ∷ r) ∙ across (has k l) (eqb k x) (has k r)
  where
    across : (a b c : Bool) → or a (or b c) ≡ or (or b a) c
    across true true c = refl
    across true false c = refl
    across false true c = refl
    across false false c = refl

pub has-reverse : (k : ℕ) (l : List ℕ) → has k (reverse l) ≡ has k l
unfolding has
has-reverse k l = has-onto k l [] ∙ or-end (has k l)
  where
    or-end : (a : Bool) → or a false ≡ a
    or-end true = refl
    or-end false = refl

-- a list behind a mapped one
in-front : {A B : Type 0} (g : A → B) (l : List A) (m : List B) (i : ℕ) (d : A) → i < length l → get_or (map g l ++ m) i (g d) ≡ g (get_or l i d)
in-front g l m i d h = get_or-append (map g l) m (g d) i (rw (length-map l g) h) ∙ get_or-map g l i d

behind : {A B : Type 0} (g : A → B) (l : List A) (m : List B) (i : ℕ) (d : B) → get_or (map g l ++ m) (length l + i) d ≡ get_or m i d
behind g l m i d = ap (λ (n : ℕ). get_or (map g l ++ m) (n + i) d) (sym (length-map l g)) ∙ get_or-append-add (map g l) m i d

abbrev listed : Option ℕ → List ℕ → List ℕ
listed none l = l
listed (some m) l = m ∷ l

module _ (t : RegInfo) (f : Function) where
  -- the two places share no unit
  abbrev pub Disjoint : Place → Place → Type 0
  Disjoint p q = (u : ℕ) → has u (place_units t p) ≡ true → has u (place_units t q) ≡ true → ⊥

  pub disjoint : (p q : Place) → overlap t p q ≡ false → Disjoint p q
  disjoint p q = meets-false (place_units t p) (place_units t q)

  pub disjoint_comm : (p q : Place) → Disjoint p q → Disjoint q p
  disjoint_comm p q d u h k = d u k h

  abbrev pub remat_at : List Remat → ℕ → Remat
  remat_at l i = get_or l i no_remat

  -- where each destination stands
  module _ (a : Sorted) where
    kept_at : (i : ℕ) → i < length a.moves → get_or (destinations a) i (slot 0) ≡ dest t f a.moves i
    unfolding destinations
    kept_at i h = in-front (λ (m : KeptMove). m.dest) a.moves _ i no_move h

    remat-at : (i : ℕ) → i < length a.remats → get_or (destinations a) (length a.moves + i) (slot 0) ≡ (remat_at a.remats i).dest
    unfolding destinations
    remat-at i h = behind (λ (m : KeptMove). m.dest) a.moves _ i (slot 0) ∙ in-front (λ (r : Remat). r.dest) a.remats _ i no_remat h

    scratch-at : (i : ℕ) → get_or (destinations a) (length a.moves + (length a.remats + i)) (slot 0) ≡ (remat_at a.remats_with_scratch i).dest
    unfolding destinations
    scratch-at i =
        behind (λ (m : KeptMove). m.dest) a.moves _ (length a.remats + i) (slot 0)
        ∙ behind (λ (r : Remat). r.dest) a.remats _ i (slot 0)
        ∙ get_or-map (λ (r : Remat). r.dest) a.remats_with_scratch i no_remat

    count-destinations : length (destinations a) ≡ length a.moves + (length a.remats + length a.remats_with_scratch)
    unfolding destinations
    count-destinations = simp (length-append, length-map)

    -- a test that some destination passes
    pub kept-passes : (q : Place → Bool) (i : ℕ) → i < length a.moves → q (dest t f a.moves i) ≡ true → any_in q (destinations a) ≡ true
    kept-passes q i h e = any-true q (destinations a) i (slot 0) (omega (arith, count-destinations)) (rw (kept_at i h) e)

    pub remat-passes : (q : Place → Bool) (i : ℕ) → i < length a.remats → q (remat_at a.remats i).dest ≡ true → any_in q (destinations a) ≡ true
    remat-passes q i h e = any-true q (destinations a) (length a.moves + i) (slot 0) (omega (arith, count-destinations)) (rw (remat-at i h) e)

    pub scratch-passes : (q : Place → Bool) (i : ℕ) → i < length a.remats_with_scratch → q (remat_at a.remats_with_scratch i).dest ≡ true → any_in q (destinations a) ≡ true
    scratch-passes q i h e = any-true q (destinations a) (length a.moves + (length a.remats + i)) (slot 0) (omega (arith, count-destinations)) (rw (scratch-at i) e)

    -- no two destinations overlap
    module _ (ok : SortedOk t f a) where
      pub dest-apart : (i k : ℕ) → i < length a.moves → k < length a.moves → (i ≡ k → ⊥) → overlap t (dest t f a.moves i) (dest t f a.moves k) ≡ false
      dest-apart i k h l d = rw (kept_at i h, kept_at k l) at (ok.apart i k (omega (arith, count-destinations)) (omega (arith, count-destinations)) d)

      pub dest-disjoint : (i k : ℕ) → i < length a.moves → k < length a.moves → (i ≡ k → ⊥) → Disjoint (dest t f a.moves i) (dest t f a.moves k)
      dest-disjoint i k h l d = disjoint (dest t f a.moves i) (dest t f a.moves k) (dest-apart i k h l d)

      pub dest-remat : (i k : ℕ) → i < length a.moves → k < length a.remats → overlap t (dest t f a.moves i) (remat_at a.remats k).dest ≡ false
      dest-remat i k h l = rw (kept_at i h, remat-at k l) at (ok.apart i (length a.moves + k) (omega (arith, count-destinations)) (omega (arith, count-destinations)) (λ e. omega arith))

      pub dest-scratch : (i k : ℕ) → i < length a.moves → k < length a.remats_with_scratch → overlap t (dest t f a.moves i) (remat_at a.remats_with_scratch k).dest ≡ false
      dest-scratch i k h l = rw (kept_at i h, scratch-at k) at (ok.apart i (length a.moves + (length a.remats + k)) (omega (arith, count-destinations)) (omega (arith, count-destinations)) (λ e. omega arith))

      pub remat-remat : (i k : ℕ) → i < length a.remats → k < length a.remats → (i ≡ k → ⊥) → overlap t (remat_at a.remats i).dest (remat_at a.remats k).dest ≡ false
      remat-remat i k h l d = rw (remat-at i h, remat-at k l) at (ok.apart (length a.moves + i) (length a.moves + k) (omega (arith, count-destinations)) (omega (arith, count-destinations)) (λ e. d (omega arith)))

      pub remat-scratch : (i k : ℕ) → i < length a.remats → k < length a.remats_with_scratch → overlap t (remat_at a.remats i).dest (remat_at a.remats_with_scratch k).dest ≡ false
      remat-scratch i k h l =
          rw (remat-at i h, scratch-at k) at (ok.apart (length a.moves + i) (length a.moves + (length a.remats + k)) (omega (arith, count-destinations)) (omega (arith, count-destinations)) (λ e. omega arith))

      pub scratch-scratch : (i k : ℕ) → i < length a.remats_with_scratch → k < length a.remats_with_scratch → (i ≡ k → ⊥) → overlap t (remat_at a.remats_with_scratch i).dest (remat_at a.remats_with_scratch k).dest ≡ false
      scratch-scratch i k h l d =
          rw (scratch-at i, scratch-at k) at (ok.apart (length a.moves + (length a.remats + i)) (length a.moves + (length a.remats + k)) (omega (arith, count-destinations)) (omega (arith, count-destinations)) (λ e. d (omega arith)))

    -- 13: no free unit is a destination's
    module _ (p : Patch) (e : free_destination t f p a ≡ false) where
      free-at : (i : ℕ) (d : Place) → i < length (destinations a) → get_or (destinations a) i (slot 0) ≡ d → (u : ℕ) → has u (units_of_reg t f d) ≡ true → has u p.free ≡ false
      free-at i d h q u k = never_true (has u p.free) (meets-false (units_of_reg t f d) p.free (rw q at (any_at (λ d. meets (units_of_reg t f d) p.free) (destinations a) i (slot 0) e h)) u k)

      pub free-kept : (i : ℕ) → i < length a.moves → (u : ℕ) → has u (units_of_reg t f (dest t f a.moves i)) ≡ true → has u p.free ≡ false
      free-kept i h = free-at i (dest t f a.moves i) (omega (arith, count-destinations)) (kept_at i h)

      pub free-remat : (i : ℕ) → i < length a.remats → (u : ℕ) → has u (units_of_reg t f (remat_at a.remats i).dest) ≡ true → has u p.free ≡ false
      free-remat i h = free-at (length a.moves + i) (remat_at a.remats i).dest (omega (arith, count-destinations)) (remat-at i h)

      pub free-scratch : (i : ℕ) → i < length a.remats_with_scratch → (u : ℕ) → has u (units_of_reg t f (remat_at a.remats_with_scratch i).dest) ≡ true → has u p.free ≡ false
      free-scratch i h = free-at (length a.moves + (length a.remats + i)) (remat_at a.remats_with_scratch i).dest (omega (arith, count-destinations)) (scratch-at i)

    -- 14: the last of a class without slots shares nothing with the destination
    pub last_apart : last_overlaps t f a ≡ false → (i : ℕ) → i < length a.remats_with_scratch → includes_spillslots t (remat_class f (remat_at a.remats_with_scratch i).value) ≡ false
        → overlap t (remat_at a.remats_with_scratch i).dest (reg (last_in_order t (remat_class f (remat_at a.remats_with_scratch i).value))) ≡ false
    last_apart e i h n =
        let r = remat_at a.remats_with_scratch i in
        overlap-comm t r.dest (reg (last_in_order t (remat_class f r.value))) ∙ and-false (no (includes_spillslots t (remat_class f r.value))) _ (any_at _ a.remats_with_scratch i no_remat e h) (ap no n)

  -- the writers of a move's source
  module _ (ms : List KeptMove) where
    first-writer : (u j : ℕ) (l : List KeptMove) (k : ℕ) → k < length l → has u (place_units t (get_or l k no_move).dest) ≡ true
        → ((i : ℕ) → i < k → has u (place_units t (get_or l i no_move).dest) ≡ false) → writer_from t f ms j l u ≡ some (j + k)
    unfolding writer_from
    first-writer u j [] k h e b = absurd (omega arith)
    first-writer u j (m ∷ l) zero h e b = rw e (ap some (omega arith))
    first-writer u j (m ∷ l) (suc k) h e b = rw (b 0 (omega arith)) (first-writer u (j + 1) l k (omega arith) e (λ i q. b (suc i) (omega arith)) ∙ ap some (omega arith))

    writers-step : (x : ℕ) (us : List ℕ) → writers_of t f ms (x ∷ us) ≡ listed (writer_from t f ms 0 ms x) (writers_of t f ms us)
    unfolding writers_of
    writers-step x us = refl

    writers-has : (u k : ℕ) (us : List ℕ) → has u us ≡ true → writer_from t f ms 0 ms u ≡ some k → has k (writers_of t f ms us) ≡ true
    unfolding has
    writers-has u k [] h e = absurd (false≢true h)
    writers-has u k (x ∷ us) h e =
        rw (writers-step x us)
        (has-cases u x us h (λ q. rw (← q, e, eq-eqb k k refl)) (λ r. later (writer_from t f ms 0 ms x) (writers-has u k us r e)))
      where
        later : (o : Option ℕ) → has k (writers_of t f ms us) ≡ true → has k (listed o (writers_of t f ms us)) ≡ true
        later none h = h
        later (some m) h = or-true (eqb k m) _ h

    -- a writer is a kept move
    pub written : (i k : ℕ) → has k (writers t f ms i) ≡ true → k < length ms
    written i k h = every-has (λ m. m < length ms) (writers t f ms i) k (writers-low t f ms i) h

    -- a source unit of a kept move is barred to a diversion
    pub barred : (m u : ℕ) → m < length ms → has u (units_of_reg t f (source t f ms m)) ≡ true → cycle_move_sources t f ms u ≡ true
    unfolding cycle_move_sources
    barred m u h e = any-true (λ (m : KeptMove). has u (units_of_reg t f m.source)) ms m no_move h e

  module _ (a : Sorted) (ok : SortedOk t f a) where
    -- whoever writes a unit of the source is a writer
    pub writes : (i k u : ℕ) → k < length a.moves → has u (place_units t (source t f a.moves i)) ≡ true → has u (place_units t (dest t f a.moves k)) ≡ true → has k (writers t f a.moves i) ≡ true
    unfolding writers
    writes i k u l s d =
        writers-has a.moves u k (place_units t (source t f a.moves i)) s
        (first-writer a.moves u 0 a.moves k l d (λ j h. never_true _ (λ q. dest-disjoint a ok j k (omega arith) l (λ e. omega arith) u q d)) ∙ ap some (omega arith))

  -- the classes of the rebuilds
  module _ (fo : function.Accepted t f) (direct : Bool) (r : Remat) (ok : RematOk t f direct r) where
    pub remat-class : remat_class f r.value < num_classes t
    remat-class = class-there t f fo r.value ok.value-named ok.can

    pub remat-bank : bank_for_class t (remat_class f r.value) ≡ value_bank f r.value
    remat-bank = class-of-bank t f fo r.value ok.value-named ok.can

  -- named places
  pub named-slot : (s : ℕ) → names_place t f (slot s) ≡ true → s < f.slots
  named-slot s h = ltb-true s f.slots h

  pub named-reg : (r : ℕ) → names_place t f (reg r) ≡ true → r < num_regs t
  named-reg r h = ltb-true r (num_regs t) h

  -- a place holds whole the content of a value of its bank
  module _ (content : ℕ → List ℕ) (whole : Contents t f content) where
    -- a register of the bank, memory or not
    reg-holds : (r v : ℕ) → v < num_values f → r < num_regs t → bank_for_reg t r ≡ value_bank f v → fits t f (reg r) (length (content v)) ≡ true
    unfolding fits
    reg-holds r v l h b = go (is_memory_reg t r) refl
      where
        go : (i : Bool) → is_memory_reg t r ≡ i → or i (eqb (length (content v)) (length (reg_units t r))) ≡ true
        go true e = refl
        go false e = eq-eqb _ _ (whole v r l h e b)

    pub place-fits : (p : Place) (v : ℕ) → v < num_values f → names_place t f p ≡ true → of_bank t (value_bank f v) p ≡ true → fits t f p (length (content v)) ≡ true
    unfolding fits
    place-fits (reg r) v l n b = reg-holds r v l (named-reg r n) (eqb-true _ _ b)
    place-fits (slot s) v l n b = refl

    module _ (a : Sorted) (ok : SortedOk t f a) where
      pub dest-fits : (i : ℕ) → i < length a.moves → fits t f (dest t f a.moves i) (length (content (value t f a.moves i))) ≡ true
      dest-fits i h = let m = ok.moves i h in place-fits (dest t f a.moves i) (value t f a.moves i) m.value-named m.dest-named m.dest-bank

      pub remat-fits : (i : ℕ) → i < length a.remats → fits t f (remat_at a.remats i).dest (length (content (remat_at a.remats i).value)) ≡ true
      remat-fits i h = let r = ok.remats i h in place-fits (remat_at a.remats i).dest (remat_at a.remats i).value r.value-named r.dest-named r.dest-bank

      pub scratch-fits : (i : ℕ) → i < length a.remats_with_scratch → fits t f (remat_at a.remats_with_scratch i).dest (length (content (remat_at a.remats_with_scratch i).value)) ≡ true
      scratch-fits i h = let r = ok.remats_with_scratch i h in place-fits (remat_at a.remats_with_scratch i).dest (remat_at a.remats_with_scratch i).value r.value-named r.dest-named r.dest-bank

    pub member-holds : target.Accepted t → (v c r : ℕ) → v < num_values f → c < num_classes t → bank_for_class t c ≡ value_bank f v → has r (class_members t c) ≡ true → fits t f (reg r) (length (content v)) ≡ true
    member-holds to v c r l h b m = reg-holds r v l (member-fits t to c h r m) (member-bank t to c r h m ∙ b)

  -- two slots
  pub slot-slot : (s x : ℕ) → (s ≡ x → ⊥) → Disjoint (slot s) (slot x)
  unfolding has
  slot-slot s x d u h k = has-cases u (512 + s) [] h (λ p. has-cases u (512 + x) [] k (λ q. d (omega arith)) false≢true) false≢true

  -- a register that is not there has no unit
  pub no-units : (r : ℕ) → num_regs t ≤ r → reg_units t r ≡ []
  unfolding reg_units
  no-units r h = ap (λ (x : Reg). x.units) (get_or-eq_default t.regs no_reg h)

  -- one that passes a test which none would pass is there
  reg-there : (q : Reg → Bool) → q no_reg ≡ false → (r : ℕ) → q (get_or t.regs r no_reg) ≡ true → r < num_regs t
  reg-there q e r h = go (ltb r (num_regs t)) refl
    where
      go : (b : Bool) → ltb r (num_regs t) ≡ b → r < num_regs t
      go true l = ltb-true r (num_regs t) l
      go false l = absurd (false≢true (sym e ∙ ap q (sym (get_or-eq_default t.regs no_reg (ltb-false r (num_regs t) l))) ∙ h))

  by-range : (P : List ℕ → Type 0) → P [] → ((r : ℕ) → r < num_regs t → P (reg_units t r)) → (r : ℕ) → P (reg_units t r)
  by-range P z h r = go (ltb r (num_regs t)) refl
    where
      go : (b : Bool) → ltb r (num_regs t) ≡ b → P (reg_units t r)
      go true q = h r (ltb-true r (num_regs t) q)
      go false q = rw (no-units r (ltb-false r (num_regs t) q)) z

  module _ (to : target.Accepted t) where
    -- of every register, there or not: no slot's unit, and none twice
    pub reg-low : (r s : ℕ) → has (512 + s) (reg_units t r) ≡ false
    unfolding has
    reg-low r s = by-range (λ l. has (512 + s) l ≡ false) refl (λ r h. never_true _ (λ e. let l : 512 + s < 512 = unit-low t to r h (512 + s) e in omega arith)) r

    pub reg-once : (r : ℕ) → twice (reg_units t r) ≡ false
    unfolding twice
    reg-once = by-range (λ l. twice l ≡ false) refl (units-once t to)

    -- a memory register has a unit, which is no other register's
    pub reg-own : (r : ℕ) → is_memory_reg t r ≡ true → has (get_or (reg_units t r) 0 0) (reg_units t r) ≡ true
    unfolding reg_memory
    reg-own r m = has_get_d (reg_units t r) 0 (width_fits t to r (reg-there (λ x. eqb x.memory 1) refl r m)).0

    -- so has a register of a class
    pub member-unit : (c r : ℕ) → c < num_classes t → has r (class_members t c) ≡ true → has (get_or (reg_units t r) 0 0) (reg_units t r) ≡ true
    member-unit c r h m = has_get_d (reg_units t r) 0 (width_fits t to r (member-fits t to c h r m)).0

    pub reg-kinds : (x r u : ℕ) → is_memory_reg t x ≡ true → is_memory_reg t r ≡ false → has u (reg_units t x) ≡ true → has u (reg_units t r) ≡ true → ⊥
    unfolding reg_units has
    reg-kinds x r u m n h k = disjoint (reg x) (reg r) (memory-apart t to x r (reg-there (λ x. has u x.units) refl x h) (reg-there (λ x. has u x.units) refl r k) m n) u h k

    pub reg-slot : (r s : ℕ) → Disjoint (reg r) (slot s)
    unfolding has
    reg-slot r s u h k = has-cases u (512 + s) [] k (λ e. true≢false (sym h ∙ ap (λ (x : ℕ). has x (reg_units t r)) e ∙ reg-low r s)) (λ e. false≢true e)

    -- an emergency slot is no named place's
    pub beyond : (p : Place) (s : ℕ) → names_place t f p ≡ true → f.slots ≤ s → Disjoint p (slot s)
    beyond (reg r) s n h = reg-slot r s
    beyond (slot x) s n h = let l : x < f.slots = named-slot x n in slot-slot x s (λ e. omega arith)

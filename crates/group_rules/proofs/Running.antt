-- The machine over edits joined: one list after another, with what was written before, and what a patch leaves where it was.
use Prim.Native.Nat.{ℕ, zero, suc, ◌+◌, ◌-◌, ◌≤◌}
use mathlib.Core.Path.{◌≡◌, refl, ap, ◌∙◌}
use mathlib.Core.Bool.{Bool, true, false, false≢true}
use mathlib.Core.List.{List, [], ◌∷◌, ◌++◌, map, Memᴰ}
use mathlib.Core.Option.{Option, none, some}
use native.Mathlib.Omega.{arith}
use lib.Dec.{eqb}
use lib.ListN.{length, get_or, take}
use borrow.Author.Tests.{eqb-true, eq-eqb, ltb-true}
use Rattle.entity.specs.Logic.{pick, and, no, any_in, has}
use Rattle.entity.specs.Place.{Place, reg, slot, same_place}
use Rattle.entity.proofs.Laws.{never_true, has_get_d}
use Rattle.reginfo.specs.RegInfo.{RegInfo, num_regs, place_units, reg_units, is_memory, is_memory_reg, in_class}
use Rattle.reginfo.specs.Refused as target
use Rattle.reginfo.proofs.Accepted.{width_fits, unit-low}
use Rattle.function.specs.Function.{Function, can_rematerialize, remat_class}
use Rattle.rules.specs.Edit.{Edit, Move, Rematerialize, EmergencySpill, EmergencyReload, and_then}
use Rattle.rules.specs.Scratch.{units_of_reg}
use Rattle.rules.specs.Patch.{Entry, Patch, names_place}
use Rattle.machine.specs.Machine.{Memory, in_slot, Written, Machine, without, cell, read, fits, wrote, when, step, steps, seen}
use Rattle.machine.specs.Claim.{entry_dest, Stopped}
use Rattle.group_rules.proofs.Lists.{any-mem, or_left, mem-has}

-- the same machine, with more written before
abbrev pub extended : List Written → Machine → Machine
extended w s = record { memory = s.memory; waiting = s.waiting; written = s.written ++ w }

pub take_short : {A : Type 0} (k : ℕ) (l m : List A) → k ≤ length l → take k (l ++ m) ≡ take k l
take_short zero l m h = refl
take_short (suc k) [] m h = absurd (omega arith)
take_short (suc k) (x ∷ l) m h = ap (x ∷◌) (take_short k l m (omega arith))

pub take_long : {A : Type 0} (k : ℕ) (l m : List A) → length l ≤ k → take k (l ++ m) ≡ l ++ take (k - length l) m
take_long k [] m h = let z : k ≡ k - 0 = omega arith in ap (λ (n : ℕ). take n m) z
take_long zero (x ∷ l) m h = absurd (omega arith)
take_long (suc k) (x ∷ l) m h =
    let z : k - length l ≡ suc k - suc (length l) = omega arith in
    ap (x ∷◌) (take_long k l m (omega arith) ∙ ap (λ (n : ℕ). l ++ take n m) z)

pub take_all : {A : Type 0} (l : List A) → take (length l) l ≡ l
take_all [] = refl
take_all (x ∷ l) = ap (x ∷◌) (take_all l)

pub none_any : {A : Type 0} (p : A → Bool) (l : List A) → ((x : A) → Memᴰ x l → p x ≡ true → ⊥) → any_in p l ≡ false
none_any p l h = never_true (any_in p l) (λ e. let w = any-mem p l e in h w.0 w.1 w.2)

module _ (t : RegInfo) (f : Function) (content : ℕ → List ℕ) where
  pub steps_then : (es fs : List Edit) (s s' : Machine) → steps t f content es s ≡ some s' → steps t f content (es ++ fs) s ≡ steps t f content fs s'
  unfolding steps and_then
  steps_then [] fs s s' e = let z : s ≡ s' = cc in ap (steps t f content fs) z
  steps_then (x ∷ es) fs s s' e = go (step t f content x s) e (λ z. steps_then es fs z s')
    where
      go : (o : Option Machine) → and_then o (steps t f content es) ≡ some s' → ((z : Machine) → steps t f content es z ≡ some s' → steps t f content (es ++ fs) z ≡ steps t f content fs s')
          → and_then o (steps t f content (es ++ fs)) ≡ steps t f content fs s'
      go none e on = let z : ◌≡◌ {A = ℕ} 0 1 = cc in absurd (omega arith)
      go (some z) e on = on z e

  when-extended : (w : List Written) (b : Bool) (x s' : Machine) → when b x ≡ some s' → when b (extended w x) ≡ some (extended w s')
  when-extended w true x s' e = let z : x ≡ s' = cc in ap (λ (y : Machine). some (extended w y)) z
  when-extended w false x s' e = let z : ◌≡◌ {A = ℕ} 0 1 = cc in absurd (omega arith)

  -- no edit looks at what was written before
  step-extended : (w : List Written) (x : Edit) (s s' : Machine) → step t f content x s ≡ some s' → step t f content x (extended w s) ≡ some (extended w s')
  unfolding step
  step-extended w (Move to from v) s s' e = when-extended w (and (no (and (is_memory t to) (is_memory t from))) (fits t f to (length (read t f s.memory from)))) (wrote t f to (read t f s.memory from) s.waiting s) s' e
  step-extended w (Rematerialize to v) s s' e = when-extended w (and (can_rematerialize f v) (in_class t (remat_class f v) to)) (wrote t f to (content v) s.waiting s) s' e
  step-extended w (EmergencySpill x r) s s' e = when-extended w true (wrote t f (slot x) (read t f s.memory (reg r)) (record { reg = r; slot = x; words = read t f s.memory (reg r) } ∷ without r s.waiting) s) s' e
  step-extended w (EmergencyReload r x) s s' e = when-extended w (fits t f (reg r) (length (in_slot s.memory x))) (wrote t f (reg r) (in_slot s.memory x) (without r s.waiting) s) s' e

  pub steps-extended : (w : List Written) (es : List Edit) (s s' : Machine) → steps t f content es s ≡ some s' → steps t f content es (extended w s) ≡ some (extended w s')
  unfolding steps and_then
  steps-extended w [] s s' e = let z : s ≡ s' = cc in ap (λ (y : Machine). some (extended w y)) z
  steps-extended w (x ∷ es) s s' e = go (step t f content x s) refl e (λ z. steps-extended w es z s')
    where
      go : (o : Option Machine) → step t f content x s ≡ o → and_then o (steps t f content es) ≡ some s' → ((z : Machine) → steps t f content es z ≡ some s' → steps t f content es (extended w z) ≡ some (extended w s'))
          → and_then (step t f content x (extended w s)) (steps t f content es) ≡ some (extended w s')
      go none q e on = let z : ◌≡◌ {A = ℕ} 0 1 = cc in absurd (omega arith)
      go (some z) q e on = rw (step-extended w x s z q) (on z e)

-- words read at the same units
map_same : (h k : ℕ → ℕ) (l : List ℕ) → ((u : ℕ) → Memᴰ u l → h u ≡ k u) → map h l ≡ map k l
map_same h k [] e = refl
map_same h k (x ∷ l) e = rw (e x (Memᴰ.head refl), map_same h k l (λ u m. e u (Memᴰ.tail m)))

module _ (t : RegInfo) (f : Function) (ta : target.Accepted t) where
  -- no unit of p is one of q
  abbrev pub Off : Place → Place → Type 0
  Off p q = (u : ℕ) → has u (place_units t p) ≡ true → has u (place_units t q) ≡ true → ⊥

  -- a place that a patch leaves alone: off its destinations and free units
  pub record Clear (q : Patch) (p : Place) : Type 0 where
    pub dests : (e : Entry) → Memᴰ e q.entries → Off p (entry_dest e)
    pub free : (u : ℕ) → has u (units_of_reg t f p) ≡ true → has u q.free ≡ true → ⊥

  reg-dest : (u r : ℕ) → has u (reg_units t r) ≡ true → (d : Place) → Off (reg r) d → has u (units_of_reg t f d) ≡ true → ⊥
  unfolding has
  reg-dest u r h (reg x) o e = o u h e
  reg-dest u r h (slot x) o e = false≢true e

  slot-dest : (x : ℕ) (d : Place) → Off (slot x) d → same_place (slot x) d ≡ true → ⊥
  unfolding has
  slot-dest x (reg r) o e = false≢true e
  slot-dest x (slot y) o e =
      let z : 512 + x ≡ 512 + y = ap (λ (n : ℕ). 512 + n) (eqb-true x y e) in
      o (512 + x) (or_left (eqb (512 + x) (512 + x)) false (eq-eqb (512 + x) (512 + x) refl)) (or_left (eqb (512 + x) (512 + y)) false (eq-eqb (512 + x) (512 + y) z))

  -- at every stop it reads as it did at the start
  pub unmoved : (q : Patch) (content : ℕ → List ℕ) (m : Memory) (s : Machine) → Stopped t f q content m s → (p : Place) → names_place t f p ≡ true → Clear q p → read t f (seen t f s) p ≡ read t f m p
  unfolding read
  unmoved q content m s st (slot x) n c = st.slots x (ltb-true x f.slots n) (none_any (λ e. same_place (slot x) (entry_dest e)) q.entries (λ e k h. slot-dest x (entry_dest e) (c.dests e k) h))
  unmoved q content m s st (reg r) n c =
      let rl = ltb-true r (num_regs t) n in
      let w = (width_fits t ta r rl).0 in
      let same : (u : ℕ) → has u (reg_units t r) ≡ true → ((seen t f s).word u ≡ m.word u) × ((seen t f s).lists u ≡ m.lists u) =
      λ u h. st.units u (unit-low t ta r rl u h) (none_any (λ e. has u (units_of_reg t f (entry_dest e))) q.entries (λ e k y. reg-dest u r h (entry_dest e) (c.dests e k) y)) (never_true (has u q.free) (c.free u h)) in
      go (is_memory_reg t r) (same (get_or (reg_units t r) 0 0) (has_get_d (reg_units t r) 0 (omega arith))).1 (map_same (seen t f s).word m.word (reg_units t r) (λ u k. (same u (mem-has u (reg_units t r) k)).0))
    where
      go : (b : Bool) → (seen t f s).lists (get_or (reg_units t r) 0 0) ≡ m.lists (get_or (reg_units t r) 0 0) → map (seen t f s).word (reg_units t r) ≡ map m.word (reg_units t r)
          → pick b ((seen t f s).lists (cell t f (reg r))) (map (seen t f s).word (reg_units t r)) ≡ pick b (m.lists (cell t f (reg r))) (map m.word (reg_units t r))
      go true a e = a
      go false a e = e

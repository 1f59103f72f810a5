-- No step of the machine looks at a word: with every word and list renamed, a run is the same run, renamed.
use mathlib.Core.Path.{◌≡◌, refl, sym, ◌∙◌, ap, ap₂, subst}
use mathlib.Core.Bool.{Bool, true, false, false≢true}
use mathlib.Core.List.{List, [], ◌∷◌, map}
use mathlib.Core.Option.{Option, some, none}
use Prim.Native.Nat.{ℕ, ◌+◌, ◌<◌, ◌≤◌}
use native.Mathlib.Omega.{arith}
use lib.Dec.{eqb, ltb}
use borrow.Author.Tests.{eqb-true, eq-eqb, ltb-true}
use lib.ListN.{length, length-map}
use Rattle.entity.specs.Logic.{pick, and, or, no, all_in, has}
use Rattle.entity.specs.Place.{Place, reg, slot, names}
use Rattle.entity.proofs.Laws.{and-true}
use Rattle.reginfo.specs.RegInfo.{RegInfo, num_regs, place_units, is_memory, in_class}
use Rattle.function.specs.Function.{Function, num_values, can_rematerialize, remat_class}
use Rattle.rules.specs.Edit.{Edit, Move, Rematerialize, EmergencySpill, EmergencyReload, updated, and_then}
use Rattle.machine.specs.Machine.{Memory, in_slot, Machine, Waiting, put, cell, read, write, fits, step, steps, when, wrote, without}
use Rattle.examine_rules.specs.Examine.{named}

pick_at : {A B : Type 0} (h : A → B) (b : Bool) (x y : A) → h (pick b x y) ≡ pick b (h x) (h y)
pick_at h true x y = refl
pick_at h false x y = refl

-- a step that is done was allowed
when-some : (b : Bool) (s s' : Machine) → when b s ≡ some s' → (b ≡ true) × (s ≡ s')
when-some true s s' e = (refl, cc)
when-some false s s' e = absurd (let z : ◌≡◌ {A = ℕ} 0 1 = cc in omega arith)

when-done : (b : Bool) (s : Machine) → b ≡ true → when b s ≡ some s
when-done b s e = rw e

then_some : (o : Option Machine) (next : Machine → Option Machine) (s' : Machine) → and_then o next ≡ some s' → (s : Machine) × (o ≡ some s) × (next s ≡ some s')
unfolding and_then
then_some none next s' e = absurd (let z : ◌≡◌ {A = ℕ} 0 1 = cc in omega arith)
then_some (some s) next s' e = (s, refl, e)

pub has-head : (u : ℕ) (l : List ℕ) → has u (u ∷ l) ≡ true
unfolding has
has-head u l = rw (eq-eqb u u refl)

pub has-tail : (x u : ℕ) (l : List ℕ) → has x l ≡ true → has x (u ∷ l) ≡ true
unfolding has
has-tail x u l h = rw h (go (eqb x u))
  where
    go : (b : Bool) → or b true ≡ true
    go true = refl
    go false = refl

map-image : (φ g h : ℕ → ℕ) (us : List ℕ) → ((u : ℕ) → has u us ≡ true → h u ≡ φ (g u)) → map h us ≡ map φ (map g us)
map-image φ g h [] e = refl
map-image φ g h (u ∷ us) e = ap₂ ◌∷◌ (e u (has-head u us)) (map-image φ g h us (λ x k. e x (has-tail x u us k)))

put-image : (φ : ℕ → ℕ) (us ws : List ℕ) (g h : ℕ → ℕ) (u : ℕ) → h u ≡ φ (g u) → put us (map φ ws) h u ≡ φ (put us ws g u)
unfolding put
put-image φ [] ws g h u e = e
put-image φ (x ∷ us) [] g h u e = e
put-image φ (x ∷ us) (w ∷ ws) g h u e = ap (pick (eqb u x) (φ w)) (put-image φ us ws g h u e) ∙ sym (pick_at φ (eqb u x) w (put us ws g u))

module _ (t : RegInfo) (f : Function)
    (low : (p : Place) → is_memory t p ≡ false → (u : ℕ) → has u (place_units t p) ≡ true → u < 512)
    (narrow : (p : Place) → is_memory t p ≡ false → length (place_units t p) ≤ 8)
    (φ : ℕ → ℕ) (ψ : List ℕ → List ℕ) (short : (l : List ℕ) → length l ≤ 8 → ψ l ≡ map φ l)
  where
    -- m' is m renamed, where the machine looks
    pub record Image (m m' : Memory) : Type 0 where
      pub words : (u : ℕ) → u < 512 → m'.word u ≡ φ (m.word u)
      pub lists : (c : ℕ) → m'.lists c ≡ ψ (m.lists c)

    pub read-image : (m m' : Memory) → Image m m' → (p : Place) → read t f m' p ≡ ψ (read t f m p)
    unfolding read
    read-image m m' i p = go (is_memory t p) refl
      where
        go : (b : Bool) → is_memory t p ≡ b → pick b (m'.lists (cell t f p)) (map m'.word (place_units t p)) ≡ ψ (pick b (m.lists (cell t f p)) (map m.word (place_units t p)))
        go true e = i.lists (cell t f p)
        go false e =
            map-image φ m.word m'.word (place_units t p) (λ u h. i.words u (low p e u h))
            ∙ sym (short (map m.word (place_units t p)) (omega (arith, length-map (place_units t p) m.word, narrow p e)))

    -- what is written at a place that is no memory has at most eight words
    abbrev Short : Place → List ℕ → Type 0
    Short p ws = is_memory t p ≡ false → length ws ≤ 8

    pub write-image : (p : Place) (ws : List ℕ) (m m' : Memory) → Short p ws → Image m m' → Image (write t f p ws m) (write t f p (ψ ws) m')
    unfolding write updated
    write-image p ws m m' s i = go (is_memory t p) refl
      where
        go : (b : Bool) → is_memory t p ≡ b
            → Image (pick b (record { word = m.word; lists = updated (cell t f p) ws m.lists }) (record { word = put (place_units t p) ws m.word; lists = m.lists }))
            (pick b (record { word = m'.word; lists = updated (cell t f p) (ψ ws) m'.lists }) (record { word = put (place_units t p) (ψ ws) m'.word; lists = m'.lists }))
        go true e = record { words = i.words; lists = λ c. ap (pick (eqb c (cell t f p)) (ψ ws)) (i.lists c) ∙ sym (pick_at ψ (eqb c (cell t f p)) ws (m.lists c)) }
        go false e =
            record {
              words = λ u h.
                  ap (λ (l : List ℕ). put (place_units t p) l m'.word u) (short ws (s e)) ∙ put-image φ (place_units t p) ws m.word m'.word u (i.words u h);
              lists = i.lists;
            }

    fits-short : (p : Place) (ws : List ℕ) → fits t f p (length ws) ≡ true → Short p ws
    unfolding fits
    fits-short p ws h e =
        let q : eqb (length ws) (length (place_units t p)) ≡ true = rw e at h in
        let l : length ws ≡ length (place_units t p) = eqb-true _ _ q in
        omega (arith, narrow p e)

    fits-image : (p : Place) (ws : List ℕ) → fits t f p (length ws) ≡ true → fits t f p (length (ψ ws)) ≡ true
    unfolding fits
    fits-image p ws h = go (is_memory t p) refl (fits-short p ws h) h
      where
        go : (b : Bool) → is_memory t p ≡ b → Short p ws → or b (eqb (length ws) (length (place_units t p))) ≡ true → or b (eqb (length (ψ ws)) (length (place_units t p))) ≡ true
        go true e s k = refl
        go false e s k = let l : length (ψ ws) ≡ length ws = ap length (short ws (s e)) ∙ length-map ws φ in rw l k

    abbrev Like : Machine → Machine → Type 0
    Like s s' = Image s.memory s'.memory

    -- a machine like it does the same
    abbrev Does : Machine → Option Machine → Type 0
    Does s₁ o = (s₁' : Machine) × (o ≡ some s₁') × Like s₁ s₁'

    done : (b : Bool) (x y s₁ : Machine) → b ≡ true → x ≡ s₁ → Like x y → Does s₁ (when b y)
    done b x y s₁ h e l = (y, when-done b y h, subst (λ (z : Machine). Like z y) e l)

    both : (a b : Bool) → a ≡ true → b ≡ true → and a b ≡ true
    both a b h k = rw (h, k)

    module _ (γ content : ℕ → List ℕ) (few : (v : ℕ) → v < num_values f → length (γ v) ≤ 8) (same : (v : ℕ) → v < num_values f → ψ (γ v) ≡ content v) where
      written : (p : Place) (ws ws' : List ℕ) (w w' : List Waiting) (s s' : Machine) → ψ ws ≡ ws' → Short p ws → Like s s' → Like (wrote t f p ws w s) (wrote t f p ws' w' s')
      written p ws ws' w w' s s' e h i = rw (← e) (write-image p ws s.memory s'.memory h i)

      pub step-image : (most : ℕ) (e : Edit) (s s₁ s' : Machine) → named t f most e ≡ true → Like s s' → step t f γ e s ≡ some s₁ → Does s₁ (step t f content e s')
      unfolding step named
      step-image most (Move to from v) s s₁ s' n i d =
          let ws : List ℕ = read t f s.memory from in
          let ws' : List ℕ = read t f s'.memory from in
          let q : ws' ≡ ψ ws = read-image s.memory s'.memory i from in
          let h = when-some (and (no (and (is_memory t to) (is_memory t from))) (fits t f to (length ws))) (wrote t f to ws s.waiting s) s₁ d in
          let k = and-true (no (and (is_memory t to) (is_memory t from))) (fits t f to (length ws)) h.0 in
          done (and (no (and (is_memory t to) (is_memory t from))) (fits t f to (length ws'))) (wrote t f to ws s.waiting s) (wrote t f to ws' s'.waiting s') s₁
          (both _ _ k.0 (subst (λ (l : List ℕ). fits t f to (length l) ≡ true) (sym q) (fits-image to ws k.1))) h.1
          (written to ws ws' s.waiting s'.waiting s s' (sym q) (fits-short to ws k.1) i)
      step-image most (Rematerialize to v) s s₁ s' n i d =
          let vn : v < num_values f = ltb-true v (num_values f) (and-true (names (num_regs t) (f.slots + most) to) (ltb v (num_values f)) n).1 in
          let h = when-some (and (can_rematerialize f v) (in_class t (remat_class f v) to)) (wrote t f to (γ v) s.waiting s) s₁ d in
          done (and (can_rematerialize f v) (in_class t (remat_class f v) to)) (wrote t f to (γ v) s.waiting s) (wrote t f to (content v) s'.waiting s') s₁ h.0 h.1
          (written to (γ v) (content v) s.waiting s'.waiting s s' (same v vn) (λ _. few v vn) i)
      step-image most (EmergencySpill x r) s s₁ s' n i d =
          let w : List Waiting = record { reg = r; slot = x; words = read t f s.memory (reg r) } ∷ without r s.waiting in
          let w' : List Waiting = record { reg = r; slot = x; words = read t f s'.memory (reg r) } ∷ without r s'.waiting in
          let a : Machine = wrote t f (slot x) (read t f s.memory (reg r)) w s in
          let b : Machine = wrote t f (slot x) (read t f s'.memory (reg r)) w' s' in
          let e : a ≡ s₁ = cc in
          (b, refl, subst (λ (z : Machine). Like z b) e (written (slot x) _ _ w w' s s' (sym (read-image s.memory s'.memory i (reg r))) (λ m. absurd (false≢true (sym m))) i))
      step-image most (EmergencyReload r x) s s₁ s' n i d =
          let ws : List ℕ = in_slot s.memory x in
          let ws' : List ℕ = in_slot s'.memory x in
          let q : ws' ≡ ψ ws = i.lists (512 + x) in
          let h = when-some (fits t f (reg r) (length ws)) (wrote t f (reg r) ws (without r s.waiting) s) s₁ d in
          done (fits t f (reg r) (length ws')) (wrote t f (reg r) ws (without r s.waiting) s) (wrote t f (reg r) ws' (without r s'.waiting) s') s₁
          (subst (λ (l : List ℕ). fits t f (reg r) (length l) ≡ true) (sym q) (fits-image (reg r) ws h.0)) h.1
          (written (reg r) ws ws' (without r s.waiting) (without r s'.waiting) s s' (sym q) (fits-short (reg r) ws h.0) i)

      pub steps-image : (most : ℕ) (es : List Edit) (s s₁ s' : Machine) → all_in (named t f most) es ≡ true → Like s s' → steps t f γ es s ≡ some s₁ → Does s₁ (steps t f content es s')
      unfolding steps and_then all_in
      steps-image most [] s s₁ s' n i d = let e : s ≡ s₁ = cc in (s', refl, subst (λ (z : Machine). Like z s') e i)
      steps-image most (x ∷ es) s s₁ s' n i d =
          let k = and-true (named t f most x) (all_in (named t f most) es) n in
          let h = then_some (step t f γ x s) (steps t f γ es) s₁ d in
          let y = step-image most x s h.0 s' k.0 i h.1 in
          let z = steps-image most es h.0 s₁ y.0 k.1 y.2 h.2 in
          (z.0, rw y.1 z.1, z.2)

-- Laws of the machine's memory: what a write changes, and what a read finds.
use mathlib.Core.Path.{◌≡◌, refl, sym, ◌∙◌, ap, ap₂, subst}
use mathlib.Core.Bool.{Bool, true, false, not, ◌&&◌, ◌||◌, cond}
use mathlib.Core.List.{List, [], ◌∷◌, map}
use Prim.Native.Nat.{ℕ, ◌+◌}
use lib.Dec.{T, T_not, not_T, eqb, eqb→eq, eqb_refl}
use native.Mathlib.Nat.{suc-ne-zero, suc_inj}
use lib.ListN.{length, get_or}
use Rattle.entity.specs.Logic.{has}
use Rattle.entity.specs.Place.{Place, reg, slot}
use Rattle.reginfo.specs.RegInfo.{RegInfo, reg_units, is_memory_reg, is_memory, place_units}
use Rattle.function.specs.Function.{Function}
use Rattle.rules.specs.Edit.{updated}
use Rattle.machine.specs.Machine.{Memory, put, cell, read, write, fits}
use Rattle.rules.proofs.Steps.{updated-same, updated-other}
use Rattle.machine.proofs.Tests.{has_in, or_split, or_l, or_r, and_split, cond_yes, cond-not}

pub put_other : (us ws : List ℕ) (f : ℕ → ℕ) (x : ℕ) → T (not (has_in us x)) → put us ws f x ≡ f x
unfolding has put
put_other [] ws f x h = refl
put_other (u ∷ us) [] f x h = refl
put_other (u ∷ us) (w ∷ ws) f x h = cond-not (eqb x u) w (put us ws f x) (or_split (eqb x u) (has_in us x) h).0 ∙ put_other us ws f x (or_split (eqb x u) (has_in us x) h).1

pub put-cong : (us ws : List ℕ) (f g : ℕ → ℕ) (x : ℕ) → f x ≡ g x → put us ws f x ≡ put us ws g x
unfolding put
put-cong [] ws f g x e = e
put-cong (u ∷ us) [] f g x e = e
put-cong (u ∷ us) (w ∷ ws) f g x e = ap (cond (eqb x u) w) (put-cong us ws f g x e)

-- at two lists of units that share none
pub put-comm : (us ws us' ws' : List ℕ) (f : ℕ → ℕ) (x : ℕ) → (T (has_in us x) → T (has_in us' x) → ⊥) → put us ws (put us' ws' f) x ≡ put us' ws' (put us ws f) x
put-comm us ws us' ws' f x d = go (has_in us x) (λ h. h) (λ h. h)
  where
    go : (b : Bool) → (T b → T (has_in us x)) → (T (not b) → T (not (has_in us x))) → put us ws (put us' ws' f) x ≡ put us' ws' (put us ws f) x
    go true y n =
        let o : T (not (has_in us' x)) = not_T (has_in us' x) (d (y tt)) in
        put-cong us ws (put us' ws' f) f x (put_other us' ws' f x o) ∙ sym (put_other us' ws' (put us ws f) x o)
    go false y n = put_other us ws (put us' ws' f) x (n tt) ∙ put-cong us' ws' f (put us ws f) x (sym (put_other us ws f x (n tt)))

-- no unit listed twice
unfoldable pub distinct : List ℕ → Bool
distinct [] = true
distinct (u ∷ us) = not (has_in us u) && distinct us

-- the two maps agree where the list has_in it
pub map-cong : (us : List ℕ) (f g : ℕ → ℕ) → ((x : ℕ) → T (has_in us x) → f x ≡ g x) → map f us ≡ map g us
unfolding has
map-cong [] f g h = refl
map-cong (u ∷ us) f g h =
    ap₂ ◌∷◌ (h u (or_l (eqb u u) (has_in us u) (eqb_refl u)))
    (map-cong us f g (λ x k. h x (or_r (eqb x u) (has_in us x) k)))

pub put_same : (us ws : List ℕ) (f : ℕ → ℕ) → T (distinct us) → length ws ≡ length us → map (put us ws f) us ≡ ws
unfolding has put distinct
put_same [] [] f d e = refl
put_same [] (w ∷ ws) f d e = absurd (suc-ne-zero (length ws) e)
put_same (u ∷ us) [] f d e = absurd (suc-ne-zero (length us) (sym e))
put_same (u ∷ us) (w ∷ ws) f d e =
    ap₂ ◌∷◌ (cond_yes (eqb u u) w (put us ws f u) (eqb_refl u))
    (map-cong us (put (u ∷ us) (w ∷ ws) f) (put us ws f) apart ∙ put_same us ws f (and_split (not (has_in us u)) (distinct us) d).1 (suc_inj e))
  where
    apart : (x : ℕ) → T (has_in us x) → put (u ∷ us) (w ∷ ws) f x ≡ put us ws f x
    apart x h =
        cond-not (eqb x u) w (put us ws f x)
        (not_T (eqb x u) (λ k. T_not (has_in us u) (and_split (not (has_in us u)) (distinct us) d).0 (subst (λ (y : ℕ). T (has_in us y)) (eqb→eq x u k) h)))

-- where us has_in it, what was there does not matter
pub put-hit : (us ws : List ℕ) (f g : ℕ → ℕ) (x : ℕ) → T (has_in us x) → length ws ≡ length us → put us ws f x ≡ put us ws g x
unfolding has put
put-hit [] ws f g x h e = absurd h
put-hit (u ∷ us) [] f g x h e = absurd (suc-ne-zero (length us) (sym e))
put-hit (u ∷ us) (w ∷ ws) f g x h e = go (eqb x u) h (λ k. put-hit us ws f g x k (suc_inj e))
  where
    go : (b : Bool) → T (b || has_in us x) → (T (has_in us x) → put us ws f x ≡ put us ws g x) → cond b w (put us ws f x) ≡ cond b w (put us ws g x)
    go true k ih = refl
    go false k ih = ih k

pub put_self : (us : List ℕ) (f : ℕ → ℕ) (x : ℕ) → put us (map f us) f x ≡ f x
unfolding put
put_self [] f x = refl
put_self (u ∷ us) f x = go (eqb x u) (eqb→eq x u) (put_self us f x)
  where
    go : (b : Bool) → (T b → x ≡ u) → put us (map f us) f x ≡ f x → cond b (f u) (put us (map f us) f x) ≡ f x
    go true e ih = ap f (sym (e tt))
    go false e ih = ih

-- what the machine asks of a target: no register lists a unit twice, none has_in a slot's number, and a memory register has a unit, which is no
-- other register's (6)
pub record TargetOk (t : RegInfo) : Type 0 where
  pub twice : (r : ℕ) → T (distinct (reg_units t r))
  pub low : (r s : ℕ) → T (not (has_in (reg_units t r) (512 + s)))
  pub own : (r : ℕ) → T (is_memory_reg t r) → T (has_in (reg_units t r) (get_or (reg_units t r) 0 0))
  pub kinds : (x r u : ℕ) → T (is_memory_reg t x) → T (not (is_memory_reg t r)) → T (has_in (reg_units t x) u) → T (has_in (reg_units t r) u) → ⊥

-- a and b agree but for the units that the test c takes; 512 + s is slot s
pub record Off (c : ℕ → Bool) (a b : Memory) : Type 0 where
  pub words : (u : ℕ) → T (not (c u)) → a.word u ≡ b.word u
  pub lists : (u : ℕ) → T (not (c u)) → a.lists u ≡ b.lists u

module _ (t : RegInfo) (f : Function) (tk : TargetOk t) where
  unfoldable pub covers : Place → ℕ → Bool
  covers (reg r) u = has_in (reg_units t r) u
  covers (slot s) u = eqb u (512 + s)

  -- the places share no unit
  abbrev pub Apart : Place → Place → Type 0
  Apart p q = (u : ℕ) → T (covers p u) → T (covers q u) → ⊥

  pub apart-sym : (p q : Place) → Apart p q → Apart q p
  apart-sym p q h u a b = h u b a

  -- memory shares nothing with what is not memory
  pub memory-apart : (q : Place) (r : ℕ) → T (is_memory t q) → T (not (is_memory_reg t r)) → Apart q (reg r)
  unfolding covers
  memory-apart (reg x) r m n u a b = tk.kinds x r u m n a b
  memory-apart (slot s) r m n u a b = T_not (has_in (reg_units t r) (512 + s)) (tk.low r s) (subst (λ (y : ℕ). T (has_in (reg_units t r) y)) (eqb→eq u (512 + s) a) b)

  -- a place covers its units, and lists none twice
  unit-covered : (p : Place) (u : ℕ) → T (has_in (place_units t p) u) → T (covers p u)
  unfolding covers has
  unit-covered (reg r) u h = h
  unit-covered (slot s) u h = go (eqb u (512 + s)) h
    where
      go : (b : Bool) → T (b || false) → T b
      go true h = tt
      go false h = h

  cell-covered : (p : Place) → T (is_memory t p) → T (covers p (cell t f p))
  unfolding covers
  cell-covered (reg r) h = tk.own r h
  cell-covered (slot s) h = eqb_refl (512 + s)

  units-once : (p : Place) → T (distinct (place_units t p))
  unfolding has distinct
  units-once (reg r) = tk.twice r
  units-once (slot s) = tt

  -- ws written at p, as a list or as words
  abbrev written : Place → List ℕ → Memory → Bool → Memory
  written p ws m b = cond b (record { word = m.word; lists = updated (cell t f p) ws m.lists }) (record { word = put (place_units t p) ws m.word; lists = m.lists })

  pub write-off : (p : Place) (ws : List ℕ) (m : Memory) → Off (covers p) (write t f p ws m) m
  unfolding write
  write-off p ws m = go (is_memory t p) (cell-covered p)
    where
      go : (b : Bool) → (T b → T (covers p (cell t f p))) → Off (covers p) (written p ws m b) m
      go true h =
          record {
            words = λ u k. refl;
            lists = λ u k. updated-other (cell t f p) ws m.lists u (λ e. T_not (covers p u) k (subst (λ (y : ℕ). T (covers p y)) (sym e) (h tt)));
          }
      go false h =
          record { words = λ u k. put_other (place_units t p) ws m.word u (not_T (has_in (place_units t p) u) (λ x. T_not (covers p u) k (unit-covered p u x))); lists = λ u k. refl }

  pub read_off : (c : ℕ → Bool) (a b : Memory) → Off c a b → (q : Place) → ((u : ℕ) → T (covers q u) → T (c u) → ⊥) → read t f a q ≡ read t f b q
  unfolding read
  read_off c a b o q d = go (is_memory t q) (cell-covered q)
    where
      go : (i : Bool) → (T i → T (covers q (cell t f q))) → cond i (a.lists (cell t f q)) (map a.word (place_units t q)) ≡ cond i (b.lists (cell t f q)) (map b.word (place_units t q))
      go true h = o.lists (cell t f q) (not_T (c (cell t f q)) (d (cell t f q) (h tt)))
      go false h = map-cong (place_units t q) a.word b.word (λ x k. o.words x (not_T (c x) (d x (unit-covered q x k))))

  pub read-write : (p : Place) (ws : List ℕ) (m : Memory) → T (fits t f p (length ws)) → read t f (write t f p ws m) p ≡ ws
  unfolding read write fits
  read-write p ws m h = go (is_memory t p) h
    where
      go : (b : Bool) → T (b || eqb (length ws) (length (place_units t p))) → cond b ((written p ws m b).lists (cell t f p)) (map (written p ws m b).word (place_units t p)) ≡ ws
      go true k = updated-same (cell t f p) ws m.lists
      go false k = put_same (place_units t p) ws m.word (units-once p) (eqb→eq (length ws) (length (place_units t p)) k)

  -- a register that is not memory holds words, and no write changes a list at a unit of it
  module _ (r : ℕ) (n : T (not (is_memory_reg t r))) where
    pub plain-write : (ws : List ℕ) (m : Memory) → write t f (reg r) ws m ≡ record { word = put (reg_units t r) ws m.word; lists = m.lists }
    unfolding write
    plain-write ws m = cond-not (is_memory_reg t r) _ _ n

    pub plain-read : (m : Memory) → read t f m (reg r) ≡ map m.word (reg_units t r)
    unfolding read
    plain-read m = cond-not (is_memory_reg t r) _ _ n

    pub plain-lists : (p : Place) (ws : List ℕ) (m : Memory) (u : ℕ) → T (has_in (reg_units t r) u) → (write t f p ws m).lists u ≡ m.lists u
    unfolding write covers
    plain-lists p ws m u k = go (is_memory t p) (λ i. memory-apart p r i n) (cell-covered p)
      where
        go : (b : Bool) → (T b → Apart p (reg r)) → (T b → T (covers p (cell t f p))) → (written p ws m b).lists u ≡ m.lists u
        go true a h = updated-other (cell t f p) ws m.lists u (λ e. a tt u (subst (λ (y : ℕ). T (covers p y)) (sym e) (h tt)) k)
        go false a h = refl

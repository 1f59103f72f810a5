-- The keys and values are the map; the sparse cells, whatever else they hold, point back at each key, so one look decides.
use Prim.Native.Nat.{ℕ, zero, suc, ◌+◌, ◌*◌, ◌<◌, ◌≤◌}
use mathlib.Core.Path.{◌≡◌, refl, sym, ap, ◌∙◌, fun_ext}
use mathlib.Core.Bool.{Bool, true, false}
use mathlib.Core.List.{List, [], ◌∷◌, ◌++◌}
use mathlib.Core.Option.{Option, none, some}
use native.Mathlib.Omega.{arith}
use native.Mathlib.Nat.{lt-suc_self}
use native.Mathlib.Numerals.{add-one}
use lib.ListN.{set, get_or, length, length-set, length-append, get_or-append}
use lib.Seq.{get_or-set_same, get_or-set_other, get_or_at}
use lib.Arith.{lt_of_le-ne}
use lib.Dec.{eqb}
use borrow.Author.Tests.{eqb-true, eqb-false, eq-eqb, ne_eqb}
use Rattle.entity.specs.Logic.{pick, or, has, twice}
use Rattle.sparse.specs.Map.{count_of, key_at, value_at, map_from, map_of, empty_map, updated, keys_from, keys_of, known, Linked, Absent, Placed, Emptied, Begins, Inserted, Same, Shortened}

-- ---- maps
pub updated-same : (f : ℕ → Option ℕ) (k v : ℕ) → updated f k v k ≡ some v
unfolding updated
updated-same f k v = rw (eq-eqb k k refl)

pub updated-other : (f : ℕ → Option ℕ) (k v x : ℕ) → (x ≡ k → ⊥) → updated f k v x ≡ f x
unfolding updated
updated-other f k v x n = rw (ne_eqb x k n)

pub known-updated : (f : ℕ → Option ℕ) (k v x : ℕ) → known (updated f k v x) ≡ or (eqb x k) (known (f x))
unfolding updated
known-updated f k v x = by (eqb x k)
  where
    by : (b : Bool) → known (pick b (some v) (f x)) ≡ or b (known (f x))
    by true = refl
    by false = refl

-- ---- the keys, as a list
length_from : (t : List ℕ) (n : ℕ) → length (keys_from t n) ≡ n
unfolding keys_from
length_from t zero = refl
length_from t (suc n) = length-append (keys_from t n) (key_at t n ∷ []) ∙ rw (length_from t n, add-one n)

pub length-keys : (t : List ℕ) → length (keys_of t) ≡ count_of t
unfolding keys_of
length-keys t = length_from t (count_of t)

from_at : (t : List ℕ) (n j : ℕ) → j < n → get_or (keys_from t n) j 0 ≡ key_at t j
unfolding keys_from
from_at t zero j h = absurd (omega arith)
from_at t (suc n) j h = by (eqb j n) refl (from_at t n j)
  where
    by : (b : Bool) → eqb j n ≡ b → (j < n → get_or (keys_from t n) j 0 ≡ key_at t j) → get_or (keys_from t n ++ (key_at t n ∷ [])) j 0 ≡ key_at t j
    by true e f = rw (eqb-true j n e) (get_or_at (keys_from t n) (key_at t n) [] 0 n (length_from t n))
    by false e f =
        let l : j < n = lt_of_le-ne (omega arith) (eqb-false j n e) in
        let m : j < length (keys_from t n) = omega (arith, length_from t n) in
        get_or-append (keys_from t n) (key_at t n ∷ []) 0 j m ∙ f l

pub key-there : (t : List ℕ) (j : ℕ) → j < length (keys_of t) → get_or (keys_of t) j 0 ≡ key_at t j
unfolding keys_of
key-there t j h = from_at t (count_of t) j (rw length_from at h)

-- ---- a key that is not there, and one that is
map-miss : (t : List ℕ) (k n : ℕ) → ((j : ℕ) → j < n → key_at t j ≡ k → ⊥) → map_from t n k ≡ none
unfolding map_from
map-miss t k zero h = refl
map-miss t k (suc n) h = rw (ne_eqb (key_at t n) k (h n (lt-suc_self n)), map-miss t k n (λ j l. h j (omega arith)))

miss-none : (t : List ℕ) (k n : ℕ) → map_from t n k ≡ none → (j : ℕ) → j < n → key_at t j ≡ k → ⊥
unfolding map_from
miss-none t k zero e j h q = omega arith
miss-none t k (suc n) e j h q = go (eqb (key_at t n) k) refl e (miss-none t k n)
  where
    go : (b : Bool) → eqb (key_at t n) k ≡ b → pick b (some (value_at t n)) (map_from t n k) ≡ none → (map_from t n k ≡ none → (j : ℕ) → j < n → key_at t j ≡ k → ⊥) → ⊥
    go true p o on = let z : ◌≡◌ {A = ℕ} 0 1 = cc in omega arith
    go false p o on = on o j (lt_of_le-ne (omega arith) (λ r. eqb-false (key_at t n) k p (rw (← r) q))) q

-- k is among the first n at i and nowhere else
record At (t : List ℕ) (k n i : ℕ) : Type 0 where
  pub below : i < n
  pub key : key_at t i ≡ k
  pub only : (j : ℕ) → j < n → key_at t j ≡ k → j ≡ i

fewer : (t : List ℕ) (k n i : ℕ) → At t k (suc n) i → (n ≡ i → ⊥) → At t k n i
fewer t k n i a ne =
    let l : i < suc n = a.below in
    record { below = lt_of_le-ne (omega arith) (λ e. ne (sym e)); key = a.key; only = λ j h e. a.only j (omega arith) e }

map-hit : (t : List ℕ) (k n i : ℕ) → At t k n i → map_from t n k ≡ some (value_at t i)
unfolding map_from
map-hit t k zero i a = absurd (let l : i < 0 = a.below in omega arith)
map-hit t k (suc n) i a = by (eqb n i) refl (map-hit t k n i)
  where
    by : (b : Bool) → eqb n i ≡ b → (At t k n i → map_from t n k ≡ some (value_at t i)) → pick (eqb (key_at t n) k) (some (value_at t n)) (map_from t n k) ≡ some (value_at t i)
    by true e f =
        let q : n ≡ i = eqb-true n i e in
        let h : key_at t n ≡ k = rw q a.key in
        rw (eq-eqb (key_at t n) k h, q)
    by false e f =
        let ne : n ≡ i → ⊥ = eqb-false n i e in
        rw (ne_eqb (key_at t n) k (λ h. ne (a.only n (lt-suc_self n) h))) (f (fewer t k n i a ne))

-- ---- the sparse cell decides
module _ (t : List ℕ) (k : ℕ) (ok : Linked t) where
  back_at : (j : ℕ) → j < count_of t → key_at t j ≡ k → get_or t k 0 ≡ j
  back_at j h e = rw e at (ok.back j h).1

  nowhere : (n : ℕ) → n ≡ count_of t → Absent t k → Placed t k n
  nowhere n is a = record { most = omega arith; here = λ l. absurd (omega arith); gone = λ m. a }

  -- the cell points past the keys
  pub placed_past : (n i : ℕ) → n ≡ count_of t → i ≡ get_or t k 0 → n ≤ i → Placed t k n
  placed_past n i is at h = nowhere n is (λ j l e. (let q : get_or t k 0 ≡ j = back_at j l e in omega arith))

  -- it points at another key
  pub placed-wrong : (n i x : ℕ) → n ≡ count_of t → i ≡ get_or t k 0 → x ≡ key_at t i → (x ≡ k → ⊥) → Placed t k n
  placed-wrong n i x is at key ne = nowhere n is (λ j l e. ne (key ∙ rw (at ∙ back_at j l e) e))

  module _ (i : ℕ) (p : Placed t k i) where
    at_place : i < count_of t → At t k (count_of t) i
    at_place h = record { below = h; key = p.here h; only = λ j l e. sym (back_at j l e) ∙ back_at i h (p.here h) }

    pub got-none : count_of t ≤ i → map_of t k ≡ none
    unfolding map_of
    got-none h = map-miss t k (count_of t) (p.gone h)

    pub got-some : i < count_of t → map_of t k ≡ some (value_at t i)
    unfolding map_of
    got-some h = map-hit t k (count_of t) i (at_place h)

-- ---- which keys there are
or-false : (a : Bool) → or a false ≡ a
or-false true = refl
or-false false = refl

or-true : (a : Bool) → or a true ≡ true
or-true true = refl
or-true false = refl

or_left : (a b : Bool) → or a b ≡ false → a ≡ false
or_left true b e = e
or_left false b e = refl

or_right : (a b : Bool) → or a b ≡ false → b ≡ false
or_right true true e = e
or_right true false e = refl
or_right false b e = e

has_end : (x : ℕ) (l : List ℕ) (y : ℕ) → has x (l ++ (y ∷ [])) ≡ or (has x l) (eqb x y)
unfolding has
has_end x [] y = or-false (eqb x y)
has_end x (z ∷ l) y = rw (has_end x l y) (by (eqb x z))
  where
    by : (a : Bool) → or a (or (has x l) (eqb x y)) ≡ or (or a (has x l)) (eqb x y)
    by true = refl
    by false = refl

known_from : (t : List ℕ) (k n : ℕ) → has k (keys_from t n) ≡ known (map_from t n k)
unfolding keys_from map_from has
known_from t k zero = refl
known_from t k (suc n) = has_end k (keys_from t n) (key_at t n) ∙ by (eqb (key_at t n) k) refl (known_from t k n)
  where
    by : (b : Bool) → eqb (key_at t n) k ≡ b → has k (keys_from t n) ≡ known (map_from t n k) → or (has k (keys_from t n)) (eqb k (key_at t n)) ≡ known (pick b (some (value_at t n)) (map_from t n k))
    by true e f = rw (eq-eqb k (key_at t n) (sym (eqb-true (key_at t n) k e))) (or-true (has k (keys_from t n)))
    by false e f = rw (ne_eqb k (key_at t n) (λ q. eqb-false (key_at t n) k e (sym q))) (or-false (has k (keys_from t n)) ∙ f)

-- a unit is a key where the look-up gives something
pub known-keys : (t : List ℕ) (k : ℕ) → has k (keys_of t) ≡ known (map_of t k)
unfolding keys_of map_of
known-keys t k = known_from t k (count_of t)

twice-end : (l : List ℕ) (y : ℕ) → twice l ≡ false → has y l ≡ false → twice (l ++ (y ∷ [])) ≡ false
unfolding twice has
twice-end [] y p q = refl
twice-end (x ∷ l) y p q =
    let n : eqb x y ≡ false = ne_eqb x y (λ e. eqb-false y x (or_left (eqb y x) (has y l) q) (sym e)) in
    let m : twice (l ++ (y ∷ [])) ≡ false = twice-end l y (or_right (has x l) (twice l) p) (or_right (eqb y x) (has y l) q) in
    rw (has_end x l y, or_left (has x l) (twice l) p, n, m)

distinct_from : (t : List ℕ) (n : ℕ) → ((j : ℕ) → j < n → get_or t (key_at t j) 0 ≡ j) → twice (keys_from t n) ≡ false
unfolding keys_from twice
distinct_from t zero h = refl
distinct_from t (suc n) h =
    let new : map_from t n (key_at t n) ≡ none = map-miss t (key_at t n) n (λ j l e. (let q : get_or t (key_at t n) 0 ≡ j = rw e at (h j (omega arith)) in omega (arith, h n (lt-suc_self n)))) in
    twice-end (keys_from t n) (key_at t n) (distinct_from t n (λ j l. h j (omega arith))) (known_from t (key_at t n) n ∙ rw new)

module _ (t : List ℕ) (ok : Linked t) where
  -- no key is listed twice
  pub distinct-keys : twice (keys_of t) ≡ false
  unfolding keys_of
  distinct-keys = distinct_from t (count_of t) (λ j l. (ok.back j l).1)

  module _ (j : ℕ) (h : j < length (keys_of t)) where
    in_count : j < count_of t
    in_count = rw length-keys at h

    pub key-low : get_or (keys_of t) j 0 < 4608
    key-low = rw (key-there t j h) (ok.back j in_count).0

    -- each key has a value
    pub key-value : map_of t (get_or (keys_of t) j 0) ≡ some (value_at t j)
    key-value = rw (key-there t j h) (got-some t (key_at t j) ok j (record { most = omega (arith, in_count); here = λ l. refl; gone = λ l. absurd (omega (arith, in_count)) }) in_count)

-- ---- what two tables have in common
map_same : (t u : List ℕ) (x n : ℕ) → ((j : ℕ) → j < n → key_at u j ≡ key_at t j) → ((j : ℕ) → j < n → key_at t j ≡ x → value_at u j ≡ value_at t j) → map_from u n x ≡ map_from t n x
unfolding map_from
map_same t u x zero p q = refl
map_same t u x (suc n) p q =
    rw (p n (lt-suc_self n), map_same t u x n (λ j l. p j (omega arith)) (λ j l. q j (omega arith))) (by (eqb (key_at t n) x) refl)
  where
    by : (b : Bool) → eqb (key_at t n) x ≡ b → pick b (some (value_at u n)) (map_from t n x) ≡ pick b (some (value_at t n)) (map_from t n x)
    by true e = rw (q n (lt-suc_self n) (eqb-true (key_at t n) x e))
    by false e = refl

keys-same : (t u : List ℕ) (n : ℕ) → ((j : ℕ) → j < n → key_at u j ≡ key_at t j) → keys_from u n ≡ keys_from t n
unfolding keys_from
keys-same t u zero p = refl
keys-same t u (suc n) p = rw (p n (lt-suc_self n), keys-same t u n (λ j l. p j (omega arith)))

-- ---- the map emptied
emptied : (t u : List ℕ) → count_of u ≡ 0 → u ≡ set t 6656 0 → Emptied t u
unfolding map_of map_from empty_map keys_of keys_from
emptied t u e s = record { map = rw e; keys = rw e; linked = record { few = omega arith; back = λ j h. absurd (omega arith) }; rest = s }

-- ---- a new key at the end
record Push (t u : List ℕ) (k v : ℕ) : Type 0 where
  pub count : count_of u ≡ count_of t + 1
  pub keys : (j : ℕ) → j < count_of t → key_at u j ≡ key_at t j
  pub values : (j : ℕ) → j < count_of t → value_at u j ≡ value_at t j
  pub cells : (x : ℕ) → x < 4608 → (x ≡ k → ⊥) → get_or u x 0 ≡ get_or t x 0
  pub key : key_at u (count_of t) ≡ k
  pub value : value_at u (count_of t) ≡ v
  pub cell : get_or u k 0 ≡ count_of t

module _ (t u : List ℕ) (k v : ℕ) (o : Push t u k v) (ok : Linked t) (new : Absent t k) (low : k < 4608) (room : count_of t < 1024) where
  push-link : (j : ℕ) (b : Bool) → eqb j (count_of t) ≡ b → j < suc (count_of t) → (key_at u j < 4608) × (get_or u (key_at u j) 0 ≡ j)
  push-link j true e h = rw (eqb-true j (count_of t) e, o.key) (low, o.cell)
  push-link j false e h =
      let l : j < count_of t = lt_of_le-ne (omega arith) (eqb-false j (count_of t) e) in
      let b = ok.back j l in
      rw (o.keys j l) (b.0, o.cells (key_at t j) b.0 (new j l) ∙ b.1)

  push-linked : Linked u
  push-linked = record { few = rw o.count (omega arith); back = λ j h. push-link j (eqb j (count_of t)) refl (omega (arith, o.count)) }

  push_at : (x : ℕ) (b : Bool) → eqb x k ≡ b → map_from u (suc (count_of t)) x ≡ pick b (some v) (map_from t (count_of t) x)
  unfolding map_from
  push_at x true e = rw (o.key, eq-eqb k x (sym (eqb-true x k e)), o.value)
  push_at x false e = rw (o.key, ne_eqb k x (λ q. eqb-false x k e (sym q))) (map_same t u x (count_of t) o.keys (λ j l q. o.values j l))

  push : Inserted t u k v
  unfolding map_of keys_of keys_from updated
  push = record {
    map = rw (o.count, add-one (count_of t)) (fun_ext (λ x. push_at x (eqb x k) refl));
    keys = rw (o.count, add-one (count_of t), o.key, keys-same t u (count_of t) o.keys);
    linked = push-linked;
    begins = record { count = omega (arith, o.count); keys = o.keys; values = o.values };
  }

-- ---- the keys that come first
pub begins-all : (t : List ℕ) → Begins t t
begins-all t = record { count = omega arith; keys = λ j h. refl; values = λ j h. refl }

pub begins-on : (t u v : List ℕ) → Begins t u → Begins u v → Begins t v
begins-on t u v a b =
    record {
      count = omega (arith, a.count, b.count);
      keys = λ j h. b.keys j (omega (arith, a.count)) ∙ a.keys j h;
      values = λ j h. b.values j (omega (arith, a.count)) ∙ a.values j h;
    }

-- where no more are counted, the map is theirs
first-same : (t u : List ℕ) → count_of u ≡ count_of t → Begins t u → Linked u → Same t u
unfolding map_of keys_of
first-same t u e b ok =
    record {
      map = rw e (fun_ext (λ x. map_same t u x (count_of t) b.keys (λ j h q. b.values j h)));
      keys = rw e (keys-same t u (count_of t) b.keys);
      linked = ok;
    }

-- ---- the stores of the code
module _ (t : List ℕ) (long : length t ≡ 6657) where
  pub forgotten : Emptied t (set t 6656 0)
  forgotten = emptied t (set t 6656 0) (get_or-set_same t 6656 0 0 (omega arith)) refl

  -- another count, not greater
  module _ (n : ℕ) (ok : Linked t) (less : n ≤ count_of t) where
    abbrev cut : List ℕ
    cut = set t 6656 n

    cut-count : count_of cut ≡ n
    cut-count = get_or-set_same t 6656 n 0 (omega arith)

    cut-cell : (x : ℕ) → x < 6656 → get_or cut x 0 ≡ get_or t x 0
    cut-cell x h = get_or-set_other t 6656 x n 0 (λ e. omega arith)

    cut-key : (j : ℕ) → j < n → key_at cut j ≡ key_at t j
    cut-key j h = cut-cell (4608 + j * 2) (omega (arith, ok.few))

    cut-linked : Linked cut
    cut-linked = record { few = omega (arith, cut-count, ok.few); back = λ j h. (let l : j < n = omega (arith, cut-count, h) in let b = ok.back j (omega arith) in rw (cut-key j l) (b.0, cut-cell (key_at t j) (omega (arith, b.0)) ∙ b.1)) }

    pub shortened : Shortened t cut n
    shortened u e b =
        first-same u cut (cut-count ∙ sym e)
        (record {
          count = omega (arith, cut-count, e);
          keys = λ j h. cut-key j (omega (arith, e)) ∙ b.keys j h;
          values = λ j h. cut-cell (4609 + j * 2) (omega (arith, e, ok.few)) ∙ b.values j h;
        })
        cut-linked

  -- the value, the sparse cell, the key and the count of a new key, one after the other
  module _ (k v n : ℕ) (low : k < 4608) (room : n < 1024) where
    abbrev valued : List ℕ
    valued = set t (4609 + n * 2) v

    abbrev celled : List ℕ
    celled = set valued k n

    abbrev keyed : List ℕ
    keyed = set celled (4608 + n * 2) k

    abbrev counted : List ℕ
    counted = set keyed 6656 (n + 1)

    kept : (x : ℕ) → (x ≡ 6656 → ⊥) → (x ≡ 4608 + n * 2 → ⊥) → get_or counted x 0 ≡ get_or celled x 0
    kept x a b = get_or-set_other keyed 6656 x (n + 1) 0 a ∙ get_or-set_other celled (4608 + n * 2) x k 0 b

    kept-all : (x : ℕ) → (x ≡ 6656 → ⊥) → (x ≡ 4608 + n * 2 → ⊥) → (x ≡ k → ⊥) → get_or counted x 0 ≡ get_or valued x 0
    kept-all x a b d = kept x a b ∙ get_or-set_other valued k x n 0 d

    stored-push : n ≡ count_of t → Push t counted k v
    stored-push is = record {
      count = get_or-set_same keyed 6656 (n + 1) 0 (simp length-set (omega arith)) ∙ ap (λ (m : ℕ). m + 1) is;
      keys = λ j l. kept-all (4608 + j * 2) (λ e. omega arith) (λ e. omega arith) (λ e. omega arith) ∙ get_or-set_other t (4609 + n * 2) (4608 + j * 2) v 0 (λ e. omega arith);
      values = λ j l. kept-all (4609 + j * 2) (λ e. omega arith) (λ e. omega arith) (λ e. omega arith) ∙ get_or-set_other t (4609 + n * 2) (4609 + j * 2) v 0 (λ e. omega arith);
      cells = λ x l m. kept-all x (λ e. omega arith) (λ e. omega arith) m ∙ get_or-set_other t (4609 + n * 2) x v 0 (λ e. omega arith);
      key = rw (← is) (get_or-set_other keyed 6656 (4608 + n * 2) (n + 1) 0 (λ e. omega arith) ∙ get_or-set_same celled (4608 + n * 2) k 0 (simp length-set (omega arith)));
      value = rw (← is) (kept-all (4609 + n * 2) (λ e. omega arith) (λ e. omega arith) (λ e. omega arith) ∙ get_or-set_same t (4609 + n * 2) v 0 (omega arith));
      cell = kept k (λ e. omega arith) (λ e. omega arith) ∙ get_or-set_same valued k n 0 (simp length-set (omega arith)) ∙ is;
    }

  pub inserted : (k v n : ℕ) → Linked t → map_of t k ≡ none → n ≡ count_of t → k < 4608 → n < 1024 → Inserted t (set (set (set (set t (4609 + n * 2) v) k n) (4608 + n * 2) k) 6656 (n + 1)) k v
  unfolding map_of
  inserted k v n ok new is low room = push t (counted k v n low room) k v (stored-push k v n low room is) ok (miss-none t k (count_of t) new) low (omega arith)

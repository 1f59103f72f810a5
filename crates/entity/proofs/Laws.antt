-- Laws of places and units as numbers, and of the lists that every definition is written with.
use Prim.Native.Nat.{ℕ, zero, suc, ◌+◌, ◌-◌, ◌*◌, ◌/◌, ◌%◌, ◌<◌, ◌≤◌}
use mathlib.Core.Path.{◌≡◌, refl, sym, ap, ◌∙◌}
use mathlib.Core.Bool.{Bool, true, false, true≢false, false≢true}
use mathlib.Core.List.{List, [], ◌∷◌, map}
use native.Mathlib.Omega.{arith}
use native.Mathlib.Numerals.{add-one}
use lib.Dec.{eqb, ltb}
use lib.ListN.{get_or, length, drop, length-map}
use lib.Seq.{drop-cons}
use borrow.Author.Tests.{lt-ltb, le-ltb, eq-eqb, ne_eqb, eqb-true, eqb-false, ltb-true, ltb-false}
use Rattle.entity.specs.Logic.{pick, and, or, no, any_in, all_in, has, meets, last_or, indices, cells}
use Rattle.std.specs.Prelude as std
use Rattle.std.specs.Prelude.{Some, None, is_some, min, max}
use Rattle.std.proofs.Math.Option.{Option, some, none}
use Rattle.entity.specs.declared.AllocationKind.{AllocationKind}
use Rattle.entity.specs.Place.{Place, reg, slot, code_of, place_at, place_of, named_of, names, read_place, reg_unit, slot_unit, unit_code, unit_at}

-- what a test says of its parts
pub or-false : (a b : Bool) → or a b ≡ false → (a ≡ false) × (b ≡ false)
or-false true b e = absurd (true≢false e)
or-false false b e = (refl, e)

pub and-true : (a b : Bool) → and a b ≡ true → (a ≡ true) × (b ≡ true)
and-true true b e = (refl, e)
and-true false b e = absurd (false≢true e)

pub and-false : (a b : Bool) → and a b ≡ false → a ≡ true → b ≡ false
and-false true b e h = e
and-false false b e h = absurd (false≢true h)

pub no_false : (a : Bool) → no a ≡ false → a ≡ true
no_false true e = refl
no_false false e = absurd (true≢false e)

pub never_true : (a : Bool) → (a ≡ true → ⊥) → a ≡ false
never_true true h = absurd (h refl)
never_true false h = refl

-- a place's code means that place, and a unit's number that unit
pub place-there : (p : Place) → place_at (code_of p) ≡ p
unfolding place_at
place-there (reg r) = rw (eq-eqb ((r * 2 + 1) % 2) 1 (omega arith)) (ap reg (omega arith))
place-there (slot s) = rw (ne_eqb (s * 2 % 2) 1 (λ e. omega arith)) (ap slot (omega arith))

pub code-there : (c : ℕ) → code_of (place_at c) ≡ c
unfolding place_at
code-there c = go (eqb (c % 2) 1) refl
  where
    go : (b : Bool) → eqb (c % 2) 1 ≡ b → code_of (pick b (reg (c / 2)) (slot (c / 2))) ≡ c
    go true e = let h : c % 2 ≡ 1 = eqb-true (c % 2) 1 e in omega arith
    go false e = let h : c % 2 ≡ 1 → ⊥ = eqb-false (c % 2) 1 e in omega arith

pub reg-unit-there : (u : ℕ) → u < 512 → unit_at (unit_code (reg_unit u)) ≡ reg_unit u
unfolding unit_at
reg-unit-there u h = rw (lt-ltb u 512 h)

pub slot-unit-there : (s : ℕ) → unit_at (unit_code (slot_unit s)) ≡ slot_unit s
unfolding unit_at
slot-unit-there s = rw (le-ltb (512 + s) 512 (omega arith)) (ap slot_unit (omega arith))

-- one cell more
pub cells-step : (t : List ℕ) (at n : ℕ) → 0 < n → cells t at n ≡ get_or t at 0 ∷ cells t (at + 1) (n - 1)
unfolding cells
cells-step t at n h = let l : n ≡ suc (n - 1) = omega arith in ap (cells t at) l

-- one index more
pub indices_step : (i n : ℕ) → 0 < n → indices i n ≡ i ∷ indices (i + 1) (n - 1)
unfolding indices
indices_step i n h = let l : n ≡ suc (n - 1) = omega arith in ap (indices i) l

pub length-cells : (t : List ℕ) (at n : ℕ) → length (cells t at n) ≡ n
unfolding cells
length-cells t at zero = refl
length-cells t at (suc n) = ap suc (length-cells t (at + 1) n)

pub get_d-cells : (t : List ℕ) (at n j : ℕ) → j < n → get_or (cells t at n) j 0 ≡ get_or t (at + j) 0
unfolding cells
get_d-cells t at zero j h = absurd (omega arith)
get_d-cells t at (suc n) zero h = ap (λ (i : ℕ). get_or t i 0) (omega arith)
get_d-cells t at (suc n) (suc j) h = get_d-cells t (at + 1) n j (omega arith) ∙ ap (λ (i : ℕ). get_or t i 0) (omega arith)

pub length-indices : (i n : ℕ) → length (indices i n) ≡ n
unfolding indices
length-indices i zero = refl
length-indices i (suc n) = ap suc (length-indices (i + 1) n)

-- a list made from an index on: its length, and what stands at k
pub length-built : {A : Type 0} (f : ℕ → A) (i n : ℕ) → length (map f (indices i n)) ≡ n
length-built f i n = length-map (indices i n) f ∙ length-indices i n

pub get_d-built : {A : Type 0} (f : ℕ → A) (i n k : ℕ) (d : A) → k < n → get_or (map f (indices i n)) k d ≡ f (i + k)
unfolding indices
get_d-built f i zero k d h = absurd (omega arith)
get_d-built f i (suc n) zero d h = ap f (omega arith)
get_d-built f i (suc n) (suc k) d h = get_d-built f (i + 1) n k d (omega arith) ∙ ap f (omega arith)

-- the tests of a list, one element on
pub drop-step : {A : Type 0} (l : List A) (j : ℕ) (d : A) → j < length l → drop j l ≡ get_or l j d ∷ drop (j + 1) l
drop-step l j d h = rw (add-one, drop-cons l j d)

pub has-step : (x : ℕ) (l : List ℕ) (j : ℕ) → j < length l → has x (drop j l) ≡ or (eqb x (get_or l j 0)) (has x (drop (j + 1) l))
unfolding has
has-step x l j h = ap (has x) (drop-step l j 0 h)

pub meets-step : (l m : List ℕ) (j : ℕ) → j < length l → meets (drop j l) m ≡ or (has (get_or l j 0) m) (meets (drop (j + 1) l) m)
unfolding meets
meets-step l m j h = ap (λ (k : List ℕ). meets k m) (drop-step l j 0 h)

-- what a test of every element says of one of them
pub all-at : {A : Type 0} (p : A → Bool) (l : List A) (i : ℕ) (d : A) → all_in p l ≡ true → i < length l → p (get_or l i d) ≡ true
unfolding all_in
all-at p [] i d e h = absurd (omega arith)
all-at p (x ∷ l) zero d e h = (and-true (p x) (all_in p l) e).0
all-at p (x ∷ l) (suc i) d e h = all-at p l i d (and-true (p x) (all_in p l) e).1 (omega arith)

pub any_at : {A : Type 0} (p : A → Bool) (l : List A) (i : ℕ) (d : A) → any_in p l ≡ false → i < length l → p (get_or l i d) ≡ false
unfolding any_in
any_at p [] i d e h = absurd (omega arith)
any_at p (x ∷ l) zero d e h = (or-false (p x) (any_in p l) e).0
any_at p (x ∷ l) (suc i) d e h = any_at p l i d (or-false (p x) (any_in p l) e).1 (omega arith)

pub any-from : (p : ℕ → Bool) (a n i : ℕ) → any_in p (indices a n) ≡ false → i < n → p (a + i) ≡ false
unfolding any_in indices
any-from p a zero i e h = absurd (omega arith)
any-from p a (suc n) zero e h = let l : a + 0 ≡ a = omega arith in ap p l ∙ (or-false (p a) (any_in p (indices (a + 1) n)) e).0
any-from p a (suc n) (suc i) e h =
    let l : a + suc i ≡ a + 1 + i = omega arith in
    ap p l ∙ any-from p (a + 1) n i (or-false (p a) (any_in p (indices (a + 1) n)) e).1 (omega arith)

pub any_below : (p : ℕ → Bool) (n i : ℕ) → any_in p (indices 0 n) ≡ false → i < n → p i ≡ false
any_below p n i e h = let l : 0 + i ≡ i = omega arith in sym (ap p l) ∙ any-from p 0 n i e h

-- a number that is listed stands somewhere
pub has-where : (x : ℕ) (l : List ℕ) → has x l ≡ true → (k : ℕ) × (k < length l) × (get_or l k 0 ≡ x)
unfolding has
has-where x [] e = absurd (false≢true e)
has-where x (y ∷ l) e = go (eqb x y) refl e (has-where x l)
  where
    go : (b : Bool) → eqb x y ≡ b → or b (has x l) ≡ true → (has x l ≡ true → (k : ℕ) × (k < length l) × (get_or l k 0 ≡ x)) → (k : ℕ) × (k < length (y ∷ l)) × (get_or (y ∷ l) k 0 ≡ x)
    go true q e on = (0, omega arith, sym (eqb-true x y q))
    go false q e on = let w = on e in (suc w.0, omega arith, w.2)

pub has_get_d : (l : List ℕ) (k : ℕ) → k < length l → has (get_or l k 0) l ≡ true
unfolding has
has_get_d [] k h = absurd (omega arith)
has_get_d (y ∷ l) zero h = rw (eq-eqb y y refl)
has_get_d (y ∷ l) (suc k) h = ap (or (eqb (get_or l k 0) y)) (has_get_d l k (omega arith)) ∙ or_right (eqb (get_or l k 0) y)
  where
    or_right : (a : Bool) → or a true ≡ true
    or_right true = refl
    or_right false = refl

pub all-has : (p : ℕ → Bool) (l : List ℕ) (x : ℕ) → all_in p l ≡ true → has x l ≡ true → p x ≡ true
all-has p l x e h = let w = has-where x l h in rw w.2 at (all-at p l w.0 0 e w.1)

pub any-has : (p : ℕ → Bool) (l : List ℕ) (x : ℕ) → any_in p l ≡ false → has x l ≡ true → p x ≡ false
any-has p l x e h = let w = has-where x l h in rw w.2 at (any_at p l w.0 0 e w.1)

-- where x could stand only at p, it is listed when it stands there
pub has-only : (x p : ℕ) (l : List ℕ) → ((k : ℕ) → k < length l → get_or l k 0 ≡ x → k ≡ p) → has x l ≡ and (ltb p (length l)) (eqb (get_or l p 0) x)
has-only x p l only = go (ltb p (length l)) refl (eqb (get_or l p 0) x) refl
  where
    go : (a : Bool) → ltb p (length l) ≡ a → (b : Bool) → eqb (get_or l p 0) x ≡ b → has x l ≡ and a b
    go true f true e = rw (eqb-true (get_or l p 0) x e) at (has_get_d l p (ltb-true p (length l) f))
    go true f false e = never_true (has x l) (λ h. let w = has-where x l h in eqb-false (get_or l p 0) x e (rw (only w.0 w.1 w.2) at w.2))
    go false f b e = never_true (has x l) (λ h. let w = has-where x l h in let q : w.0 ≡ p = only w.0 w.1 w.2 in let g : length l ≤ p = ltb-false p (length l) f in omega (arith, w.1))

-- the last of a list that is not empty
pub last-get_d : (d : ℕ) (l : List ℕ) → 0 < length l → last_or d l ≡ get_or l (length l - 1) 0
unfolding last_or
last-get_d d [] h = absurd (omega arith)
last-get_d d (x ∷ []) h = refl
last-get_d d (x ∷ y ∷ l) h = let k : suc (length (y ∷ l) - 1) ≡ length (x ∷ y ∷ l) - 1 = omega arith in last-get_d x (y ∷ l) (omega arith) ∙ ap (λ (k : ℕ). get_or (x ∷ y ∷ l) k 0) k

pub last_has : (d : ℕ) (l : List ℕ) → 0 < length l → has (last_or d l) l ≡ true
last_has d l h = rw (last-get_d d l h) (has_get_d l (length l - 1) (omega arith))

-- sharing a number goes both ways
eqb_comm : (a b : ℕ) → eqb a b ≡ eqb b a
eqb_comm a b = go (eqb b a) refl
  where
    go : (t : Bool) → eqb b a ≡ t → eqb a b ≡ t
    go true e = eq-eqb a b (sym (eqb-true b a e))
    go false e = ne_eqb a b (λ q. eqb-false b a e (sym q))

or-across : (a b c d : Bool) → or (or a b) (or c d) ≡ or (or a c) (or b d)
or-across true b c d = refl
or-across false true true d = refl
or-across false true false d = refl
or-across false false true d = refl
or-across false false false d = refl

meets-nil : (l : List ℕ) → meets l [] ≡ false
unfolding meets has
meets-nil [] = refl
meets-nil (x ∷ l) = meets-nil l

meets-cons : (x : ℕ) (l m : List ℕ) → meets l (x ∷ m) ≡ or (has x l) (meets l m)
unfolding meets has
meets-cons x [] m = refl
meets-cons x (y ∷ l) m = rw (meets-cons x l m, eqb_comm y x) (or-across (eqb x y) (has y m) (has x l) (meets l m))

pub meets-comm : (l m : List ℕ) → meets l m ≡ meets m l
unfolding meets
meets-comm [] m = sym (meets-nil m)
meets-comm (x ∷ l) m = ap (or (has x m)) (meets-comm l m) ∙ sym (meets-cons x m l)

-- a code names something exactly when its place is one of the first registers or slots
some-picked : (b : Bool) (p q : Place) → some p ≡ pick b (some q) none → true ≡ b
some-picked true p q e = refl
some-picked false p q e = cc

none-picked : (b : Bool) (q : Place) → none ≡ pick b (some q) none → false ≡ b
none-picked true q e = cc
none-picked false q e = refl

pub is-named : (regs slots c : ℕ) (r : std.Option AllocationKind) → named_of r ≡ read_place regs slots c → is_some r ≡ names regs slots (place_at c)
unfolding read_place
is-named regs slots c (Some k) e = some-picked (names regs slots (place_at c)) (place_of k) (place_at c) e
is-named regs slots c None e = none-picked (names regs slots (place_at c)) (place_at c) e

-- what std's `min` and `max` give, as the definitions say it
pub least : (a b : ℕ) → min a b ≡ pick (ltb a b) a b
least a b = go (ltb a b) refl
  where
    go : (p : Bool) → ltb a b ≡ p → min a b ≡ pick p a b
    go true e = omega (arith, ltb-true a b e)
    go false e = omega (arith, ltb-false a b e)

pub greatest : (a b : ℕ) → max a b ≡ pick (ltb a b) b a
greatest a b = go (ltb a b) refl
  where
    go : (p : Bool) → ltb a b ≡ p → max a b ≡ pick p b a
    go true e = omega (arith, ltb-true a b e)
    go false e = omega (arith, ltb-false a b e)

-- What holds of a step that may be refused, of a branch, of steps one after the other and of a function changed at one place.
use Prim.Native.Nat.{ℕ, zero, suc, ◌+◌, ◌<◌, ◌≤◌}
use mathlib.Core.Path.{◌≡◌, refl}
use mathlib.Core.Bool.{Bool, true, false, false≢true}
use mathlib.Core.List.{List, [], ◌∷◌, reverse, reverse_aux}
use mathlib.Core.Option.{Option, none, some}
use mathlib.Core.Logic.{◌⊎◌, inl, inr}
use native.Mathlib.Omega.{arith}
use lib.Dec.{eqb}
use lib.ListN.{length, get_or}
use borrow.Author.Tests.{eqb-true, eqb-false}
use Rattle.entity.specs.Logic.{pick, or, has, indices}
use Rattle.rules.specs.Edit.{updated, and_then, each}

-- what holds of a result, unless it was refused
abbrev pub All : {A : Type 0} → (A → Type 0) → Option A → Type 0
All P none = Unit {0}
All P (some a) = P a

pub all_then : {A B : Type 0} (P : A → Type 0) (Q : B → Type 0) (o : Option A) (next : A → Option B) → All P o → ((a : A) → P a → All Q (next a)) → All Q (and_then o next)
unfolding and_then
all_then P Q none next h k = tt
all_then P Q (some a) next h k = k a h

-- whatever the first gives
pub all_after : {A B : Type 0} (Q : B → Type 0) (o : Option A) (next : A → Option B) → ((a : A) → All Q (next a)) → All Q (and_then o next)
unfolding and_then
all_after Q none next k = tt
all_after Q (some a) next k = k a

pub all_map : {A : Type 0} (P Q : A → Type 0) (o : Option A) → ((a : A) → P a → Q a) → All P o → All Q o
all_map P Q none k h = tt
all_map P Q (some a) k h = k a h

-- a branch has what both its arms have
pub branch : {A : Type 0} (P : A → Type 0) (b : Bool) (x y : A) → (b ≡ true → P x) → (b ≡ false → P y) → P (pick b x y)
branch P true x y f g = f refl
branch P false x y f g = g refl

-- one number or another
pub same? : (k i : ℕ) → (k ≡ i) ⊎ (k ≡ i → ⊥)
same? k i = go (eqb k i) refl
  where
    go : (b : Bool) → eqb k i ≡ b → (k ≡ i) ⊎ (k ≡ i → ⊥)
    go true e = inl (eqb-true k i e)
    go false e = inr (eqb-false k i e)

-- what holds of each listed
abbrev pub Every : {A : Type 0} → (A → Type 0) → List A → Type 0
Every P [] = Unit {0}
Every P (x ∷ l) = P x × Every P l

pub every-get_d : {A : Type 0} (P : A → Type 0) (d : A) (l : List A) → ((i : ℕ) → i < length l → P (get_or l i d)) → Every P l
every-get_d P d [] h = tt
every-get_d P d (x ∷ l) h = (h 0 (omega arith), every-get_d P d l (λ i k. h (suc i) (omega arith)))

pub every_map : {A : Type 0} (P Q : A → Type 0) → ((x : A) → P x → Q x) → (l : List A) → Every P l → Every Q l
every_map P Q f [] h = tt
every_map P Q f (x ∷ l) h = (f x h.0, every_map P Q f l h.1)

every-reverse_aux : {A : Type 0} (P : A → Type 0) (l r : List A) → Every P l → Every P r → Every P (reverse_aux l r)
every-reverse_aux P [] r h k = k
every-reverse_aux P (x ∷ l) r h k = every-reverse_aux P l (x ∷ r) h.1 (h.0, k)

pub every-reverse : {A : Type 0} (P : A → Type 0) (l : List A) → Every P l → Every P (reverse l)
every-reverse P l h = every-reverse_aux P l [] h tt

pub every-has : (P : ℕ → Type 0) (l : List ℕ) (x : ℕ) → Every P l → has x l ≡ true → P x
unfolding has
every-has P [] x h e = absurd (false≢true e)
every-has P (y ∷ l) x h e = go (eqb x y) refl e (every-has P l x h.1)
  where
    go : (b : Bool) → eqb x y ≡ b → or b (has x l) ≡ true → (has x l ≡ true → P x) → P x
    go true q e on = rw (eqb-true x y q) h.0
    go false q e on = on e

pub every-index : (n i m : ℕ) → i + m ≤ n → Every (λ k. k < n) (indices i m)
unfolding indices
every-index n i zero h = tt
every-index n i (suc m) h = (omega arith, every-index n (i + 1) m (omega arith))

-- what each step keeps is kept
pub all-each :
    {A B : Type 0} (P : A → Type 0) (Q : B → Type 0) (step : B → A → Option A) → ((x : B) (a : A) → Q x → P a → All P (step x a))
    → (l : List B) → Every Q l → (a : A) → P a → All P (each step l a)
unfolding each
all-each P Q step s [] q a h = h
all-each P Q step s (x ∷ l) q a h = all_then P P (step x a) (each step l) (s x a q.0 h) (λ a' h'. all-each P Q step s l q.1 a' h')

-- what holds of a changed function at k
pub updated-at : {A : Type 0} (P : A → Type 0) (i : ℕ) (x : A) (f : ℕ → A) (k : ℕ) → (k ≡ i → P x) → ((k ≡ i → ⊥) → P (f k)) → P (updated i x f k)
unfolding updated
updated-at P i x f k a b = branch P (eqb k i) x (f k) (λ e. a (eqb-true k i e)) (λ e. b (eqb-false k i e))

pub updated-same : {A : Type 0} (i : ℕ) (x : A) (f : ℕ → A) → updated i x f i ≡ x
updated-same i x f = updated-at (λ y. y ≡ x) i x f i (λ e. refl) (λ d. absurd (d refl))

pub updated-other : {A : Type 0} (i : ℕ) (x : A) (f : ℕ → A) (k : ℕ) → (k ≡ i → ⊥) → updated i x f k ≡ f k
updated-other i x f k d = updated-at (λ y. y ≡ f k) i x f k (λ e. absurd (d e)) (λ _. refl)

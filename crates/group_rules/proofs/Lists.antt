-- Members, tests of lists, and sums.
use Prim.Native.Nat.{ℕ, zero, suc, ◌+◌, ◌<◌, ◌≤◌}
use mathlib.Core.Path.{◌≡◌, refl, sym, ap, ◌∙◌}
use mathlib.Core.Bool.{Bool, true, false, false≢true, true≢false}
use mathlib.Core.List.{List, [], ◌∷◌, ◌++◌, map, Memᴰ}
use mathlib.Core.Option.{none, some}
use mathlib.Core.Logic.{◌⊎◌, inl, inr, ⊎_elim}
use native.Mathlib.Omega.{arith}
use lib.Dec.{eqb, ltb}
use lib.ListN.{length, get_or}
use borrow.Author.Tests.{eqb-true, eq-eqb, ltb-true, ltb-false}
use Rattle.entity.specs.Logic.{pick, and, or, any_in, has, meets, twice}
use Rattle.entity.proofs.Laws.{or-false, never_true}
use Rattle.reginfo.specs.Refused.{Condition, or_else, first_of}
use Rattle.rules.specs.Edit.{filter}
use Rattle.rules.proofs.Steps.{Every}

-- ---- tests
pub same_test : (a b : Bool) → (a ≡ true → b ≡ true) → (b ≡ true → a ≡ true) → a ≡ b
same_test true true f g = refl
same_test true false f g = absurd (false≢true (f refl))
same_test false true f g = absurd (false≢true (g refl))
same_test false false f g = refl

pub not-then : (a b : Bool) → (b ≡ true → a ≡ true) → a ≡ false → b ≡ false
not-then a b f e = never_true b (λ h. true≢false (sym (f h) ∙ e))

pub and-less : (a b c : Bool) → (b ≡ true → a ≡ true) → and a c ≡ false → and b c ≡ false
and-less a true c f e = rw (f refl) at e
and-less a false c f e = refl

pub and_right : (c a b : Bool) → (b ≡ true → a ≡ true) → and c a ≡ false → and c b ≡ false
and_right true a b f e = not-then a b f e
and_right false a b f e = refl

pub or_case : (a b : Bool) → or a b ≡ true → (a ≡ true) ⊎ (b ≡ true)
or_case true b e = inl refl
or_case false b e = inr e

pub or_left : (a b : Bool) → a ≡ true → or a b ≡ true
or_left a b e = rw e

pub or_right : (a b : Bool) → b ≡ true → or a b ≡ true
or_right true b e = refl
or_right false b e = e

pub or-more : (a b c d : Bool) → (a ≡ true → c ≡ true) → (b ≡ true → d ≡ true) → or a b ≡ true → or c d ≡ true
or-more a b c d f g e = ⊎_elim (λ h. or_left c d (f h)) (λ h. or_right c d (g h)) (or_case a b e)

-- one number is below the other, or not
pub below? : (a b : ℕ) → (a < b) ⊎ (b ≤ a)
below? a b = go (ltb a b) refl
  where
    go : (c : Bool) → ltb a b ≡ c → (a < b) ⊎ (b ≤ a)
    go true e = inl (ltb-true a b e)
    go false e = inr (ltb-false a b e)

-- ---- members
abbrev pub Sub : {A : Type 0} → List A → List A → Type 0
Sub {A} l m = (x : A) → Memᴰ x l → Memᴰ x m

pub any-mem : {A : Type 0} (p : A → Bool) (l : List A) → any_in p l ≡ true → (x : A) × Memᴰ x l × (p x ≡ true)
unfolding any_in
any-mem p [] e = absurd (false≢true e)
any-mem {A} p (y ∷ l) e = ⊎_elim (λ h. (y, Memᴰ.head refl, h)) (λ h. let z = any-mem p l h in (z.0, Memᴰ.tail z.1, z.2)) (or_case (p y) (any_in p l) e)

pub mem-any : {A : Type 0} (p : A → Bool) (l : List A) (x : A) → Memᴰ x l → p x ≡ true → any_in p l ≡ true
unfolding any_in
mem-any {A = A} p [] x x4 h = elim x4 [ ]
mem-any p (y ∷ l) x (Memᴰ.head e) h = or_left (p y) (any_in p l) (ap p (sym e) ∙ h)
mem-any p (y ∷ l) x (Memᴰ.tail m) h = or_right (p y) (any_in p l) (mem-any p l x m h)

pub any-sub : {A : Type 0} (p : A → Bool) (l m : List A) → Sub l m → any_in p l ≡ true → any_in p m ≡ true
any-sub p l m s e = let z = any-mem p l e in mem-any p m z.0 (s z.0 z.1) z.2

pub mem-at : {A : Type 0} (d : A) (l : List A) (x : A) → Memᴰ x l → (i : ℕ) × (i < length l) × (get_or l i d ≡ x)
mem-at {A = A} d [] x x3 = elim x3 [ ]
mem-at d (y ∷ l) x (Memᴰ.head e) = (0, omega arith, sym e)
mem-at d (y ∷ l) x (Memᴰ.tail m) = let z = mem-at d l x m in (suc z.0, omega (arith, z.1), z.2)

pub at_mem : {A : Type 0} (d : A) (l : List A) (i : ℕ) → i < length l → Memᴰ (get_or l i d) l
at_mem d [] i h = absurd (omega arith)
at_mem d (y ∷ l) zero h = Memᴰ.head refl
at_mem d (y ∷ l) (suc i) h = Memᴰ.tail (at_mem d l i (omega arith))

pub any_append : {A : Type 0} (p : A → Bool) (l m : List A) → any_in p (l ++ m) ≡ or (any_in p l) (any_in p m)
unfolding any_in
any_append p [] m = refl
any_append p (x ∷ l) m = go (p x) (any_append p l m)
  where
    go : (b : Bool) → any_in p (l ++ m) ≡ or (any_in p l) (any_in p m) → or b (any_in p (l ++ m)) ≡ or (or b (any_in p l)) (any_in p m)
    go true e = refl
    go false e = e

pub any-map : {A B : Type 0} (p : B → Bool) (g : A → B) (l : List A) → any_in p (map g l) ≡ any_in (λ x. p (g x)) l
unfolding any_in
any-map p g [] = refl
any-map p g (x ∷ l) = ap (or (p (g x))) (any-map p g l)

-- ---- numbers
pub has-mem : (x : ℕ) (l : List ℕ) → has x l ≡ true → Memᴰ x l
unfolding has
has-mem x [] e = absurd (false≢true e)
has-mem x (y ∷ l) e = ⊎_elim (λ h. Memᴰ.head (eqb-true x y h)) (λ h. Memᴰ.tail (has-mem x l h)) (or_case (eqb x y) (has x l) e)

pub mem-has : (x : ℕ) (l : List ℕ) → Memᴰ x l → has x l ≡ true
unfolding has
mem-has x [] x'' = elim x'' [ ]
mem-has x (y ∷ l) (Memᴰ.head e) = or_left (eqb x y) (has x l) (eq-eqb x y e)
mem-has x (y ∷ l) (Memᴰ.tail m) = or_right (eqb x y) (has x l) (mem-has x l m)

pub has-append : (x : ℕ) (l m : List ℕ) → has x (l ++ m) ≡ or (has x l) (has x m)
unfolding has
has-append x [] m = refl
has-append x (y ∷ l) m = go (eqb x y) (has-append x l m)
  where
    go : (b : Bool) → has x (l ++ m) ≡ or (has x l) (has x m) → or b (has x (l ++ m)) ≡ or (or b (has x l)) (has x m)
    go true e = refl
    go false e = e

pub meet : (x : ℕ) (l m : List ℕ) → has x l ≡ true → has x m ≡ true → meets l m ≡ true
unfolding has meets
meet x [] m a b = absurd (false≢true a)
meet x (y ∷ l) m a b = ⊎_elim (λ e. or_left (has y m) (meets l m) (ap (λ (z : ℕ). has z m) (sym (eqb-true x y e)) ∙ b)) (λ e. or_right (has y m) (meets l m) (meet x l m e b)) (or_case (eqb x y) (has x l) a)

pub met : (l m : List ℕ) → meets l m ≡ true → (x : ℕ) × (has x l ≡ true) × (has x m ≡ true)
unfolding has meets
met [] m e = absurd (false≢true e)
met (y ∷ l) m e = ⊎_elim (λ h. (y, or_left (eqb y y) (has y l) (eq-eqb y y refl), h)) (λ h. let z = met l m h in (z.0, or_right (eqb z.0 y) (has z.0 l) z.1, z.2)) (or_case (has y m) (meets l m) e)

-- what a filter leaves
pub filter-has : (q : ℕ → Bool) (l : List ℕ) (x : ℕ) → has x (filter q l) ≡ true → (has x l ≡ true) × (q x ≡ true)
unfolding has filter
filter-has q [] x e = absurd (false≢true e)
filter-has q (y ∷ l) x e = go (filter-has q l x) (q y) refl e
  where
    later : (has x l ≡ true) × (q x ≡ true) → (or (eqb x y) (has x l) ≡ true) × (q x ≡ true)
    later z = (or_right (eqb x y) (has x l) z.0, z.1)

    go : (has x (filter q l) ≡ true → (has x l ≡ true) × (q x ≡ true)) → (b : Bool) → q y ≡ b → has x (pick b (y ∷ filter q l) (filter q l)) ≡ true
        → (or (eqb x y) (has x l) ≡ true) × (q x ≡ true)
    go on true k e =
        ⊎_elim (λ h. (or_left (eqb x y) (has x l) h, ap q (eqb-true x y h) ∙ k)) (λ h. later (on h)) (or_case (eqb x y) (has x (filter q l)) e)
    go on false k e = later (on e)

pub has-filter : (q : ℕ → Bool) (l : List ℕ) (x : ℕ) → has x l ≡ true → q x ≡ true → has x (filter q l) ≡ true
unfolding has filter
has-filter q [] x e k = absurd (false≢true e)
has-filter q (y ∷ l) x e k = ⊎_elim (λ h. here (eqb-true x y h)) (λ h. there (q y) (has-filter q l x h k)) (or_case (eqb x y) (has x l) e)
  where
    here : x ≡ y → has x (pick (q y) (y ∷ filter q l) (filter q l)) ≡ true
    here h = rw (ap q (sym h) ∙ k, eq-eqb x y h)

    there : (b : Bool) → has x (filter q l) ≡ true → has x (pick b (y ∷ filter q l) (filter q l)) ≡ true
    there true h = or_right (eqb x y) (has x (filter q l)) h
    there false h = h

pub filter-once : (q : ℕ → Bool) (l : List ℕ) → twice l ≡ false → twice (filter q l) ≡ false
unfolding twice filter
filter-once q [] e = refl
filter-once q (y ∷ l) e = let h = or-false (has y l) (twice l) e in go (q y) h.0 (filter-once q l h.1)
  where
    go : (b : Bool) → has y l ≡ false → twice (filter q l) ≡ false → twice (pick b (y ∷ filter q l) (filter q l)) ≡ false
    go true h on = rw (not-then (has y l) (has y (filter q l)) (λ k. (filter-has q l y k).0) h) on
    go false h on = on

-- ---- sums over a list of numbers
unfoldable pub total : (ℕ → ℕ) → List ℕ → ℕ
total h [] = 0
total h (g ∷ l) = h g + total h l

pub total-same : (h k : ℕ → ℕ) (l : List ℕ) → ((g : ℕ) → has g l ≡ true → h g ≡ k g) → total h l ≡ total k l
unfolding total has
total-same h k [] e = refl
total-same h k (g ∷ l) e =
    let a = e g (or_left (eqb g g) (has g l) (eq-eqb g g refl)) in
    let b = total-same h k l (λ x m. e x (or_right (eqb x g) (has x l) m)) in
    rw (a, b)

-- one of them grows
pub total-grows : (h k : ℕ → ℕ) (l : List ℕ) (x n : ℕ) → has x l ≡ true → twice l ≡ false → k x ≡ h x + n → ((g : ℕ) → (g ≡ x → ⊥) → k g ≡ h g) → total k l ≡ total h l + n
unfolding total has twice
total-grows h k [] x n m o e s = absurd (false≢true m)
total-grows h k (g ∷ l) x n m o e s =
    ⊎_elim
    (λ q. let y : x ≡ g = eqb-true x g q in
    let r : total k l ≡ total h l =
    total-same k h l (λ z a. s z (λ w. true≢false (sym a ∙ ap (λ (u : ℕ). has u l) (w ∙ y) ∙ (or-false (has g l) (twice l) o).0))) in
    let v : k g ≡ h g + n = ap k (sym y) ∙ e ∙ ap (λ (u : ℕ). h u + n) y in
    omega arith)
    (λ q. let r = total-grows h k l x n q (or-false (has g l) (twice l) o).1 e s in
    let v : k g ≡ h g = s g (λ w. true≢false (sym q ∙ ap (λ (u : ℕ). has u l) (sym w) ∙ (or-false (has g l) (twice l) o).0)) in
    omega arith) (or_case (eqb x g) (has x l) m)

pub total-holds : (h : ℕ → ℕ) (l : List ℕ) (x : ℕ) → has x l ≡ true → h x ≤ total h l
unfolding total has
total-holds h [] x m = absurd (false≢true m)
total-holds h (g ∷ l) x m =
    ⊎_elim (λ q. let y : h x ≡ h g = ap h (eqb-true x g q) in omega arith) (λ q. let y = total-holds h l x q in omega arith) (or_case (eqb x g) (has x l) m)

-- ---- conditions
pub every_first : (l : List Condition) → Every (λ (c : Condition). c.holds ≡ false) l → first_of l ≡ none
unfolding first_of
every_first [] h = refl
every_first (c ∷ l) h = rw h.0 (every_first l h.1)

pub first-both : (xs ys : List Condition) → first_of (xs ++ ys) ≡ none → (first_of xs ≡ none) × (first_of ys ≡ none)
unfolding first_of
first-both [] ys e = (refl, e)
first-both (x ∷ xs) ys e = go x.holds e (first-both xs ys)
  where
    go : (b : Bool) → or_else b x.number (first_of (xs ++ ys)) ≡ none → (first_of (xs ++ ys) ≡ none → (first_of xs ≡ none) × (first_of ys ≡ none))
        → (or_else b x.number (first_of xs) ≡ none) × (first_of ys ≡ none)
    go true e on = let z : ◌≡◌ {A = ℕ} 0 1 = cc in absurd (omega arith)
    go false e on = on e

pub first-join : (xs ys : List Condition) → first_of xs ≡ none → first_of (xs ++ ys) ≡ first_of ys
unfolding first_of
first-join [] ys e = refl
first-join (x ∷ xs) ys e = go x.holds e (first-join xs ys)
  where
    go : (b : Bool) → or_else b x.number (first_of xs) ≡ none → (first_of xs ≡ none → first_of (xs ++ ys) ≡ first_of ys) → or_else b x.number (first_of (xs ++ ys)) ≡ first_of ys
    go true e on = let z : ◌≡◌ {A = ℕ} 0 1 = cc in absurd (omega arith)
    go false e on = on e

pub first_some : (xs ys : List Condition) (n : ℕ) → first_of xs ≡ some n → first_of (xs ++ ys) ≡ some n
unfolding first_of
first_some [] ys n e = let z : ◌≡◌ {A = ℕ} 0 1 = cc in absurd (omega arith)
first_some (x ∷ xs) ys n e = go x.holds e (first_some xs ys n)
  where
    go : (b : Bool) → or_else b x.number (first_of xs) ≡ some n → (first_of xs ≡ some n → first_of (xs ++ ys) ≡ some n) → or_else b x.number (first_of (xs ++ ys)) ≡ some n
    go true e on = e
    go false e on = on e

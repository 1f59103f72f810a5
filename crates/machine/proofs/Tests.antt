-- Tests as types, and tests over lists.
use mathlib.Core.Path.{◌≡◌, refl, sym, subst}
use mathlib.Core.Bool.{Bool, true, false, not, ◌&&◌, ◌||◌, cond, true≢false, false≢true}
use mathlib.Core.List.{List, [], ◌∷◌}
use mathlib.Core.Option.{some}
use mathlib.Core.Logic.{◌⊎◌, inl, inr, ⊎_elim}
use Prim.Native.Nat.{ℕ}
use lib.Dec.{T, T_not, not_T, eqb, eqb→eq, eqb_refl}
use Rattle.entity.specs.Logic.{has, any_in, all_in}
use Rattle.rules.specs.Edit.{find}
use Rattle.rules.proofs.Steps.{All, all_map}

-- a test that is passed, and one that is not
pub yes_of : (b : Bool) → b ≡ true → T b
yes_of true e = tt
yes_of false e = absurd (false≢true e)

pub no_of : (b : Bool) → b ≡ false → T (not b)
no_of true e = absurd (true≢false e)
no_of false e = tt

pub of-yes : (b : Bool) → T b → b ≡ true
of-yes true h = refl
of-yes false h = absurd h

pub of-no : (b : Bool) → T (not b) → b ≡ false
of-no true h = absurd h
of-no false h = refl

pub never : (b : Bool) → b ≡ false → T b → ⊥
never true e h = true≢false e
never false e h = h

-- what a test says of its parts
pub or_split : (a b : Bool) → T (not (a || b)) → T (not a) × T (not b)
or_split true b h = absurd h
or_split false b h = (tt, h)

pub or_l : (a b : Bool) → T a → T (a || b)
or_l true b h = tt
or_l false b h = absurd h

pub or_r : (a b : Bool) → T b → T (a || b)
or_r true b h = tt
or_r false b h = h

pub or_case : (a b : Bool) → T (a || b) → T a ⊎ T b
or_case true b h = inl tt
or_case false b h = inr h

pub and_split : (a b : Bool) → T (a && b) → T a × T b
and_split true b h = (tt, h)
and_split false b h = absurd h

pub both : (a b : Bool) → T a → T b → T (a && b)
both true b x y = y
both false b x y = absurd x

pub no-l : (a b : Bool) → T (not a) → T (not (a && b))
no-l true b h = absurd h
no-l false b h = tt

pub no-r : (a b : Bool) → (T b → ⊥) → T (not (a && b))
no-r true b h = not_T b h
no-r false b h = tt

-- a branch keeps a fact that both its arms have
pub if : {A : Type 0} (P : A → Type 0) (b : Bool) (x y : A) → (T b → P x) → (T (not b) → P y) → P (cond b x y)
if P true x y f g = f tt
if P false x y f g = g tt

pub cond_yes : {A : Type 0} (b : Bool) (x y : A) → T b → cond b x y ≡ x
cond_yes true x y h = refl
cond_yes false x y h = absurd h

pub cond-not : {A : Type 0} (b : Bool) (x y : A) → T (not b) → cond b x y ≡ y
cond-not true x y h = absurd h
cond-not false x y h = refl

-- membership, the list first
abbrev pub has_in : List ℕ → ℕ → Bool
has_in l x = has x l

pub has-head : (l : List ℕ) (v : ℕ) → T (has_in (v ∷ l) v)
unfolding has
has-head l v = or_l (eqb v v) (has_in l v) (eqb_refl v)

pub has-tail : (l : List ℕ) (v x : ℕ) → T (has_in l x) → T (has_in (v ∷ l) x)
unfolding has
has-tail l v x h = or_r (eqb x v) (has_in l x) h

pub has_other : (l : List ℕ) (v x : ℕ) → (x ≡ v → ⊥) → has_in (v ∷ l) x ≡ has_in l x
unfolding has
has_other l v x d = go (eqb x v) (eqb→eq x v)
  where
    go : (b : Bool) → (T b → x ≡ v) → (b || has_in l x) ≡ has_in l x
    go true e = absurd (d (e tt))
    go false e = refl

pub has-cons : (us : List ℕ) (v u : ℕ) → T (has_in (v ∷ us) u) → (u ≡ v) ⊎ T (has_in us u)
unfolding has
has-cons us v u h = go (eqb u v) (eqb→eq u v) h
  where
    go : (b : Bool) → (T b → u ≡ v) → T (b || has_in us u) → (u ≡ v) ⊎ T (has_in us u)
    go true e i = inl (e tt)
    go false e i = inr i

pub any-not : (f : ℕ → Bool) (us : List ℕ) → T (not (any_in f us)) → (u : ℕ) → T (has_in us u) → T (f u) → ⊥
unfolding any_in has
any-not f [] h u k x = k
any-not f (v ∷ us) h u k x =
    ⊎_elim (λ e. T_not (f v) (or_split (f v) (any_in f us) h).0 (subst (λ (y : ℕ). T (f y)) e x))
    (λ i. any-not f us (or_split (f v) (any_in f us) h).1 u i x) (has-cons us v u k)

pub all-has : (f : ℕ → Bool) (us : List ℕ) → T (all_in f us) → (u : ℕ) → T (has_in us u) → T (f u)
unfolding all_in has
all-has f [] h u k = absurd k
all-has f (v ∷ us) h u k =
    ⊎_elim (λ e. subst (λ (y : ℕ). T (f y)) (sym e) (and_split (f v) (all_in f us) h).0)
    (λ i. all-has f us (and_split (f v) (all_in f us) h).1 u i) (has-cons us v u k)

pub find-all : (p : ℕ → Bool) (rs : List ℕ) → All (λ r. T (p r) × T (has_in rs r)) (find p rs)
unfolding find has
find-all p [] = tt
find-all p (r ∷ rs) =
    if (All (λ x. T (p x) × T (has_in (r ∷ rs) x))) (p r) (some r) (find p rs) (λ h. (h, has-head rs r))
    (λ h. all_map (λ x. T (p x) × T (has_in rs x)) (λ x. T (p x) × T (has_in (r ∷ rs) x)) (find p rs) (λ x q. (q.0, has-tail rs r x q.1)) (find-all p rs))

-- A list, some of its members taken out one by one, the last of them first, and the rest.
use Prim.Native.Nat.{ℕ, zero, suc, ◌+◌}
use mathlib.Core.Path.{◌≡◌, refl, ap}
use mathlib.Core.Bool.{Bool, true, false}
use mathlib.Core.List.{List, [], ◌∷◌, map}
use native.Mathlib.Omega.{arith}
use lib.ListN.{length, take, drop}
use Rattle.entity.specs.Logic.{pick, no}
use Rattle.rules.specs.Edit.{filter}
use Rattle.rules.proofs.Steps.{Every}

-- the first list is the second with x somewhere
pub data Picked {A : Type 0} (x : A) : List A → List A → Type 0 where
  here : {l : List A} → Picked x (x ∷ l) l
  later : {y : A} {l m : List A} → Picked x l m → Picked x (y ∷ l) (y ∷ m)

module _ {A : Type 0} (P : A → Type 0) (x : A) where
  -- what holds of each
  pub every-picked : (l m : List A) → Picked x l m → Every P l → P x × Every P m
  every-picked _ m here h = h
  every-picked _ _ (later {l = l} {m = m} p) h = let r = every-picked l m p h.1 in (r.0, (h.0, r.1))

  pub every-put : (l m : List A) → Picked x l m → P x → Every P m → Every P l
  every-put _ m here a h = (a, h)
  every-put _ _ (later {l = l} {m = m} p) a h = (h.0, every-put l m p a h.1)

pub picked-map : {A B : Type 0} (g : A → B) (x : A) (l m : List A) → Picked x l m → Picked (g x) (map g l) (map g m)
picked-map g x _ m here = here
picked-map g x _ _ (later {l = l} {m = m} p) = later (picked-map g x l m p)

-- l without the first list is the second
abbrev pub Parts : {A : Type 0} → List A → List A → List A → Type 0
Parts [] rest l = l ≡ rest
Parts {A} (x ∷ es) rest l = (mid : List A) × Picked x mid rest × Parts es mid l

module _ {A : Type 0} where
  keep : (es rest l : List A) (y : A) → Parts es rest l → Parts es (y ∷ rest) (y ∷ l)
  keep [] rest l y h = ap (y ∷◌) h
  keep (x ∷ es) rest l y h = (y ∷ h.0, later h.1, keep es h.0 l y h.2)

  back : (es rest l : List A) (y : A) → Parts es rest l → Parts (y ∷ es) rest (y ∷ l)
  back es rest l y h = (y ∷ rest, here, keep es rest l y h)

  pub all-parts : (l : List A) → Parts l [] l
  all-parts [] = refl
  all-parts (x ∷ l) = back l [] l x (all-parts l)

  pub filter_parts : (p : A → Bool) (l : List A) → Parts (filter p l) (filter (λ x. no (p x)) l) l
  unfolding filter
  filter_parts p [] = refl
  filter_parts p (x ∷ l) = go (p x) (filter_parts p l)
    where
      go : (b : Bool) → Parts (filter p l) (filter (λ x. no (p x)) l) l → Parts (pick b (x ∷ filter p l) (filter p l)) (pick (no b) (x ∷ filter (λ x. no (p x)) l) (filter (λ x. no (p x)) l)) (x ∷ l)
      go true h = back (filter p l) (filter (λ x. no (p x)) l) l x h
      go false h = keep (filter p l) (filter (λ x. no (p x)) l) l x h

  pub drop-parts : (n : ℕ) (l : List A) → Parts (drop n l) (take n l) l
  drop-parts zero l = all-parts l
  drop-parts (suc n) [] = refl
  drop-parts (suc n) (x ∷ l) = keep (drop n l) (take n l) l x (drop-parts n l)

  -- what adds up over a list adds up over its parts
  module _ (sum : List A → ℕ) (one : A → ℕ) (add : (x : A) (l : List A) → sum (x ∷ l) ≡ one x + sum l) where
    picked-sum : (x : A) (l m : List A) → Picked x l m → sum l ≡ one x + sum m
    picked-sum x _ m here = add x m
    picked-sum x _ _ (later {y = y} {l = l} {m = m} p) = omega (arith, add y l, add y m, picked-sum x l m p)

    pub parts-sum : sum [] ≡ 0 → (es rest l : List A) → Parts es rest l → sum es + sum rest ≡ sum l
    parts-sum z [] rest l h = omega (arith, z, ap sum h)
    parts-sum z (x ∷ es) rest l h = omega (arith, add x es, picked-sum x h.0 rest h.1, parts-sum z es h.0 l h.2)

  pub parts-length : (es rest l : List A) → Parts es rest l → length es + length rest ≡ length l
  parts-length es rest l h = parts-sum length (λ x. 1) (λ x l. omega arith) refl es rest l h

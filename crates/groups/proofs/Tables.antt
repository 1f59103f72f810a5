-- Cells written one after the other.
use Prim.Native.Nat.{ℕ, zero, suc, ◌+◌, ◌<◌, ◌≤◌}
use mathlib.Core.Path.{◌≡◌, refl, sym, ap, ◌∙◌}
use mathlib.Core.Bool.{Bool, true, false}
use mathlib.Core.List.{List}
use native.Mathlib.Omega.{arith}
use lib.Dec.{eqb, ltb}
use lib.ListN.{length, get_or, set, length-set, replicate}
use lib.Seq.{get_or-set_same, get_or-set_other}
use borrow.Author.Tests.{eqb-true, eqb-false}
use Rattle.entity.specs.Logic.{pick, or, cells}
use Rattle.entity.proofs.Laws.{get_d-cells}
use Rattle.groups.specs.Noting.{renamed, Renamed, UnitNoted}
use Rattle.groups.specs.Linked.{next_of, Linked}

-- the cells below i are renamed, those from it on are not
pub record Renaming (a b : ℕ) (ls ls' : List ℕ) (i : ℕ) : Type 0 where
  pub most : i ≤ 128
  pub long : length ls' ≡ 128
  pub done : (j : ℕ) → j < i → get_or ls' j 0 ≡ renamed a b (get_or ls j 0)
  pub left : (j : ℕ) → i ≤ j → get_or ls' j 0 ≡ get_or ls j 0

pub renaming-more : (a b : ℕ) (ls ls' : List ℕ) (i x : ℕ) → i < 128 → x ≡ renamed a b (get_or ls' i 0) → Renaming a b ls ls' i → Renaming a b ls (set ls' i x) (i + 1)
renaming-more a b ls ls' i x low is r =
    record {
      most = omega arith;
      long = simp length-set r.long;
      done = λ j h. done j h (eqb j i) refl;
      left = λ j h. get_or-set_other ls' i j x 0 (λ e. omega arith) ∙ r.left j (omega arith);
    }
  where
    done : (j : ℕ) → j < i + 1 → (c : Bool) → eqb j i ≡ c → get_or (set ls' i x) j 0 ≡ renamed a b (get_or ls j 0)
    done j h true e = rw (eqb-true j i e) (get_or-set_same ls' i x 0 (omega (arith, r.long)) ∙ is ∙ ap (renamed a b) (r.left i (omega arith)))
    done j h false e = let q : j ≡ i → ⊥ = eqb-false j i e in get_or-set_other ls' i j x 0 q ∙ r.done j (omega arith)

-- where the two are one already, nothing is renamed
pub renamed-same : (a b x : ℕ) → a ≡ b → x ≡ renamed a b x
renamed-same a b x h = go (eqb x a) refl
  where
    go : (c : Bool) → eqb x a ≡ c → x ≡ renamed a b x
    go true e = let y = eqb-true x a e in rw (← h, y) (either (or (eqb a a) (eqb a a)) (ltb a a))
      where
        either : (c d : Bool) → a ≡ pick c (pick d a a) a
        either true true = refl
        either true false = refl
        either false d = refl
    go false e = rw (← h, e)

-- ---- a unit noted
module _ (u k : ℕ) (o ls : List ℕ) where
  pub noted-fresh : (i x : ℕ) → length o ≡ 4608 → u < 4608 → i ≡ u → x ≡ k → 128 ≤ get_or o u 0 → UnitNoted u k o ls (set o i x) ls
  noted-fresh i x n low iu xk none =
      rw (iu, xk)
      record {
        fresh = λ _. (get_or-set_same o u k 0 (omega arith), (λ v e. get_or-set_other o u v k 0 e), refl);
        owned = λ some. absurd (omega arith);
      }

  pub noted-same : get_or o u 0 < 128 → get_or ls (get_or o u 0) 0 ≡ get_or ls k 0 → UnitNoted u k o ls o ls
  noted-same some e = record { fresh = λ none. absurd (omega arith); owned = λ _. (refl, λ i h. renamed-same _ _ (get_or ls i 0) e) }

  pub noted-joined : (ls' : List ℕ) → get_or o u 0 < 128 → Renamed (get_or ls (get_or o u 0) 0) (get_or ls k 0) ls ls' → UnitNoted u k o ls o ls'
  noted-joined ls' some r = record { fresh = λ none. absurd (omega arith); owned = λ _. (refl, r) }

-- ---- entries linked: those from i on are, and `heads` has the first of them of each label
pub record Linking (ls : List ℕ) (n : ℕ) (next heads : List ℕ) (i : ℕ) : Type 0 where
  pub most : i ≤ n
  pub long : length next ≡ 128
  pub wide : length heads ≡ 128
  pub first : (g j : ℕ) → g < 128 → i + j ≡ n → get_or heads g 0 ≡ next_of ls g i j
  pub done : (k j : ℕ) → i ≤ k → k + 1 + j ≡ n → get_or next k 0 ≡ next_of ls (get_or ls k 0) (k + 1) j

pub linking-start : (ls : List ℕ) (n : ℕ) (next heads : List ℕ) → length next ≡ 128 → length heads ≡ 128 → ((g : ℕ) → g < 128 → get_or heads g 0 ≡ 255) → Linking ls n next heads n
unfolding next_of
linking-start ls n next heads a b h =
    record {
      most = omega arith;
      long = a;
      wide = b;
      first = λ g j l e. let z : j ≡ 0 = omega arith in rw z (h g l);
      done = λ k j l e. absurd (omega arith);
    }

pub linking-more : (ls : List ℕ) (n : ℕ) (next heads : List ℕ) (i g x y : ℕ) → n ≤ 128 → i < n → g ≡ get_or ls i 0 → g < 128 → x ≡ get_or heads g 0 → y ≡ i → Linking ls n next heads (i + 1)
    → Linking ls n (set next i x) (set heads g y) i
unfolding next_of
linking-more ls n next heads i g x y few il ge gl xe ye r =
    record {
      most = omega arith;
      long = simp length-set r.long;
      wide = simp length-set r.wide;
      first = first;
      done = λ k j l e. done k j l e (eqb k i) refl;
    }
  where
    first : (h j : ℕ) → h < 128 → i + j ≡ n → get_or (set heads g y) h 0 ≡ next_of ls h i j
    first h zero l e = absurd (omega arith)
    first h (suc j) l e = go (eqb (get_or ls i 0) h) refl
      where
        go : (c : Bool) → eqb (get_or ls i 0) h ≡ c → get_or (set heads g y) h 0 ≡ pick c i (next_of ls h (i + 1) j)
        go true q = let z : g ≡ h = ge ∙ eqb-true (get_or ls i 0) h q in rw (← z) (get_or-set_same heads g y 0 (omega (arith, r.wide)) ∙ ye)
        go false q = get_or-set_other heads g h y 0 (λ z. eqb-false (get_or ls i 0) h q (sym ge ∙ sym z)) ∙ r.first h j l (omega arith)

    done : (k j : ℕ) → i ≤ k → k + 1 + j ≡ n → (c : Bool) → eqb k i ≡ c → get_or (set next i x) k 0 ≡ next_of ls (get_or ls k 0) (k + 1) j
    done k j l e true q = let z = eqb-true k i q in rw z (get_or-set_same next i x 0 (omega (arith, r.long)) ∙ xe ∙ r.first g j gl (omega arith) ∙ ap (λ (h : ℕ). next_of ls h (i + 1) j) ge)
    done k j l e false q = let z : k ≡ i → ⊥ = eqb-false k i q in get_or-set_other next i k x 0 z ∙ r.done k j (omega arith) e

next-cells : (ls : List ℕ) (n g i j : ℕ) → i + j ≤ n → next_of (cells ls 0 n) g i j ≡ next_of ls g i j
unfolding next_of
next-cells ls n g i zero h = refl
next-cells ls n g i (suc j) h =
    let e : get_or (cells ls 0 n) i 0 ≡ get_or ls i 0 = get_d-cells ls 0 n i (omega arith) ∙ ap (λ (z : ℕ). get_or ls z 0) (omega arith) in
    rw (e, next-cells ls n g (i + 1) j (omega arith))

pub linking-end : (ls : List ℕ) (n : ℕ) (next heads : List ℕ) → Linking ls n next heads 0 → Linked (cells ls 0 n) n next
linking-end ls n next heads r k j e =
    let q : get_or (cells ls 0 n) k 0 ≡ get_or ls k 0 = get_d-cells ls 0 n k (omega arith) ∙ ap (λ (z : ℕ). get_or ls z 0) (omega arith) in
    r.done k j (omega arith) e ∙ sym (next-cells ls n (get_or ls k 0) (k + 1) j (omega arith)) ∙ ap (λ (h : ℕ). next_of (cells ls 0 n) h (k + 1) j) (sym q)

-- a table filled with one number, and a label that is an entry's own
pub filled : (n x i : ℕ) → i < n → get_or (replicate n x) i 0 ≡ x
filled zero x i h = absurd (omega arith)
filled (suc n) x zero h = refl
filled (suc n) x (suc i) h = filled n x i (omega arith)

pub own-label : (ls : List ℕ) (k x : ℕ) → length ls ≡ 128 → k < 128 → x ≡ k → (get_or (set ls k x) k 0 ≡ k) × ((i : ℕ) → (i ≡ k → ⊥) → get_or (set ls k x) i 0 ≡ get_or ls i 0)
own-label ls k x n low e = (get_or-set_same ls k x 0 (omega arith) ∙ e, λ i h. get_or-set_other ls k i x 0 h)

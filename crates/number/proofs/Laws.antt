-- A number is read in its only form, every number is, and nothing else is read.
use Prim.Native.Nat.{ℕ, zero, suc, ◌+◌, ◌*◌, ◌/◌, ◌%◌, ◌^◌, ◌<◌, ◌≤◌}
use mathlib.Core.Path.{◌≡◌, refl, sym}
use mathlib.Core.Bool.{Bool, true, false}
use mathlib.Core.List.{List, [], ◌∷◌, ◌++◌}
use native.Mathlib.Omega.{arith}
use lib.Dec.{eqb, ltb}
use borrow.Author.Tests.{lt-ltb, le-ltb, ne_eqb, ltb-true, ltb-false, eqb-false}
use Rattle.entity.specs.Logic.{pick}
use Rattle.number.specs.Read.{Read, got, refused, then}
use Rattle.number.specs.Number.{joined, groups, below, number, groups_of, encoded, Bytes, OnlyForm, ReadBack, OneRefusal}

never : {A : Type 0} {a : ℕ} {r : List ℕ} {k : ℕ} → refused k ≡ got a r → A
never e = let z : ◌≡◌ {A = ℕ} 0 1 = cc in absurd (omega arith)

-- ---- only one form
only-groups : (k : ℕ) (l : List ℕ) (n : ℕ) (r : List ℕ) → Bytes l → groups k l ≡ got n r → l ≡ groups_of k n ++ r
unfolding groups groups_of
only-groups zero l n r h e = never e
only-groups (suc k) [] n r h e = never e
only-groups (suc k) (b ∷ l) n r h e = go (ltb b 128) refl (λ m q. only-groups k l m q (λ i. h (suc i))) e
  where
    one : b < 128 → b ∷ l ≡ groups_of (suc k) b ++ l
    one p = rw (lt-ltb b 128 p)

    more : (m : ℕ) (q : List ℕ) → 128 ≤ b → (m ≡ 0 → ⊥) → l ≡ groups_of k m ++ q → b ∷ l ≡ groups_of (suc k) (b % 128 + m * 128) ++ q
    more m q p z i =
        let s : b < 256 = h 0 in
        let f : (b % 128 + m * 128) % 128 + 128 ≡ b = omega arith in
        let d : (b % 128 + m * 128) / 128 ≡ m = omega arith in
        rw (le-ltb (b % 128 + m * 128) 128 (omega arith), f, d, ← i)

    high : 128 ≤ b → (m : ℕ) (q : List ℕ) (t : Bool) → eqb m 0 ≡ t → l ≡ groups_of k m ++ q → pick t (refused 1) (got (b % 128 + m * 128) q) ≡ got n r → b ∷ l ≡ groups_of (suc k) n ++ r
    high p m q true z i e = never e
    high p m q false z i e =
        let x : b % 128 + m * 128 ≡ n = cc in
        let y : q ≡ r = cc in
        rw (← x, ← y) (more m q p (eqb-false m 0 z) i)

    rest : 128 ≤ b → ((m : ℕ) (q : List ℕ) → groups k l ≡ got m q → l ≡ groups_of k m ++ q) → (x : Read ℕ) → groups k l ≡ x → then x (joined b) ≡ got n r → b ∷ l ≡ groups_of (suc k) n ++ r
    rest p on (got m q) g e = high p m q (eqb m 0) refl (on m q g) e
    rest p on (refused j) g e = never e

    go : (t : Bool) → ltb b 128 ≡ t → ((m : ℕ) (q : List ℕ) → groups k l ≡ got m q → l ≡ groups_of k m ++ q) → pick t (got b l) (then (groups k l) (joined b)) ≡ got n r → b ∷ l ≡ groups_of (suc k) n ++ r
    go true t on e =
        let x : b ≡ n = cc in
        let y : l ≡ r = cc in
        rw (← x, ← y) (one (ltb-true b 128 t))
    go false t on e = rest (ltb-false b 128 t) on (groups k l) refl e

-- ---- every number
each-groups : (k n : ℕ) (r : List ℕ) → 0 < k + n → n < 128 ^ k → groups k (groups_of k n ++ r) ≡ got n r
unfolding groups groups_of
each-groups zero n r p h = absurd (omega arith)
each-groups (suc k) n r p h = go (ltb n 128) refl (each-groups k (n / 128) r)
  where
    go : (t : Bool) → ltb n 128 ≡ t → (0 < k + n / 128 → n / 128 < 128 ^ k → groups k (groups_of k (n / 128) ++ r) ≡ got (n / 128) r) → groups (suc k) (pick t (n ∷ []) ((n % 128 + 128) ∷ groups_of k (n / 128)) ++ r) ≡ got n r
    go true t on = rw t
    go false t on =
        let q : 128 ≤ n = ltb-false n 128 t in
        let f : (n % 128 + 128) % 128 + n / 128 * 128 ≡ n = omega arith in
        rw (le-ltb (n % 128 + 128) 128 (omega arith), on (omega arith) (omega arith), ne_eqb (n / 128) 0 (λ e. omega arith), f)

-- ---- nothing else
one-groups : (k : ℕ) (l : List ℕ) (j : ℕ) → groups k l ≡ refused j → j ≡ 1
unfolding groups
one-groups zero l j e = cc
one-groups (suc k) [] j e = cc
one-groups (suc k) (b ∷ l) j e = go (ltb b 128) (one-groups k l) e
  where
    high : (t : Bool) (m : ℕ) (q : List ℕ) → pick t (refused 1) (got m q) ≡ refused j → j ≡ 1
    high true m q e = cc
    high false m q e = never (sym e)

    rest : (x : Read ℕ) → ((i : ℕ) → x ≡ refused i → i ≡ 1) → then x (joined b) ≡ refused j → j ≡ 1
    rest (got m q) on e = high (eqb m 0) (b % 128 + m * 128) q e
    rest (refused i) on e = on j e

    go : (t : Bool) → ((i : ℕ) → groups k l ≡ refused i → i ≡ 1) → pick t (got b l) (then (groups k l) (joined b)) ≡ refused j → j ≡ 1
    go true on e = never (sym e)
    go false on e = rest (groups k l) on e

-- ---- the same of whole numbers
pub only-form : OnlyForm
unfolding number
only-form l n r h e = go (groups 5 l) refl e
  where
    low : (t : Bool) (m : ℕ) (q : List ℕ) → ltb m 4294967296 ≡ t → groups 5 l ≡ got m q → pick t (got m q) (refused 1) ≡ got n r → (n < 4294967296) × (l ≡ encoded n ++ r)
    low true m q t g e =
        let x : m ≡ n = cc in
        let y : q ≡ r = cc in
        rw (← x, ← y) (ltb-true m 4294967296 t, only-groups 5 l m q h g)
    low false m q t g e = never e

    go : (x : Read ℕ) → groups 5 l ≡ x → then x below ≡ got n r → (n < 4294967296) × (l ≡ encoded n ++ r)
    go (got m q) g e = low (ltb m 4294967296) m q refl g e
    go (refused k) g e = never e

pub read_back : ReadBack
unfolding number
read_back n r h = rw (each-groups 5 n r (omega arith) (omega arith), lt-ltb n 4294967296 h)

pub one-refusal : OneRefusal
unfolding number
one-refusal l k e = go (groups 5 l) (one-groups 5 l) e
  where
    low : (t : Bool) (m : ℕ) (q : List ℕ) → pick t (got m q) (refused 1) ≡ refused k → k ≡ 1
    low true m q e = never (sym e)
    low false m q e = cc

    go : (x : Read ℕ) → ((i : ℕ) → x ≡ refused i → i ≡ 1) → then x below ≡ refused k → k ≡ 1
    go (got m q) on e = low (ltb m 4294967296) m q e
    go (refused i) on e = on k e

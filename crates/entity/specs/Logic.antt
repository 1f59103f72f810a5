-- Tests and lists of numbers that every definition above is written with.
use Rattle.std.specs.Prelude.{ℕ, zero, suc, ◌+◌, Bool, true, false, cond, not, ◌&&◌, ◌||◌, List, [], ◌∷◌, get_or, eqb}

-- the library's tests, written in front
abbrev pub pick : {A : Type 0} → Bool → A → A → A
pick b x y = cond b x y

abbrev pub and : Bool → Bool → Bool
and a b = a && b

abbrev pub or : Bool → Bool → Bool
or a b = a || b

abbrev pub no : Bool → Bool
no b = not b

-- some element passes the test
unfoldable pub any_in : {A : Type 0} → (A → Bool) → List A → Bool
any_in p [] = false
any_in p (x ∷ l) = or (p x) (any_in p l)

-- every element passes the test
unfoldable pub all_in : {A : Type 0} → (A → Bool) → List A → Bool
all_in p [] = true
all_in p (x ∷ l) = and (p x) (all_in p l)

-- x is listed
unfoldable pub has : ℕ → List ℕ → Bool
has x [] = false
has x (y ∷ l) = or (eqb x y) (has x l)

-- the two lists share a number
unfoldable pub meets : List ℕ → List ℕ → Bool
meets [] m = false
meets (x ∷ l) m = or (has x m) (meets l m)

-- a number is listed twice
unfoldable pub twice : List ℕ → Bool
twice [] = false
twice (x ∷ l) = or (has x l) (twice l)

-- the last number, d where there is none
unfoldable pub last_or : ℕ → List ℕ → ℕ
last_or d [] = d
last_or d (x ∷ l) = last_or x l

-- the numbers i, i + 1 and so on, n of them
unfoldable pub indices : ℕ → ℕ → List ℕ
indices i zero = []
indices i (suc n) = i ∷ indices (i + 1) n

-- the n cells of a table from `at` on
unfoldable pub cells : List ℕ → ℕ → ℕ → List ℕ
cells t at zero = []
cells t at (suc n) = get_or t at 0 ∷ cells t (at + 1) n

-- 01, Agreement: "a result left free by these papers is named with what holds of it". Of a working table after a call: it holds anything.
abbrev pub Anything : {A : Type 0} → A → Type 0
Anything x = Unit {0}

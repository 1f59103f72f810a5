-- 01: "the writer of each unit". A sparse map from units to numbers, in one table: cell k below 4,608 is unit k's sparse cell,
-- key j stands at 4608 + 2 j and its value at 4609 + 2 j, and the count of keys at 6656.
-- The keys and values are the map; the sparse cells only speed up the look-up.
use Rattle.std.specs.Prelude.{ℕ, zero, suc, ◌+◌, ◌*◌, ◌<◌, ◌≤◌, ◌≡◌, Bool, true, false, List, [], ◌∷◌, ◌++◌, get_or, set, eqb, Some, None}
use Rattle.std.proofs.Math.Option.{Option, none, some}
use Rattle.entity.specs.Logic.{pick}
use Rattle.std.specs.Prelude as std

-- the cells of a table
abbrev pub count_of : List ℕ → ℕ
count_of t = get_or t 6656 0

abbrev pub key_at : List ℕ → ℕ → ℕ
key_at t j = get_or t (4608 + j * 2) 0

abbrev pub value_at : List ℕ → ℕ → ℕ
value_at t j = get_or t (4609 + j * 2) 0

-- the map that the first n keys and values are, the newest key first
unfoldable pub map_from : List ℕ → ℕ → ℕ → Option ℕ
map_from t zero k = none
map_from t (suc n) k = pick (eqb (key_at t n) k) (some (value_at t n)) (map_from t n k)

unfoldable pub map_of : List ℕ → ℕ → Option ℕ
map_of t = map_from t (count_of t)

unfoldable pub empty_map : ℕ → Option ℕ
empty_map k = none

-- the map with k at v
unfoldable pub updated : (ℕ → Option ℕ) → ℕ → ℕ → ℕ → Option ℕ
updated f k v x = pick (eqb x k) (some v) (f x)

-- the keys, in the order in which they were put in
unfoldable pub keys_from : List ℕ → ℕ → List ℕ
keys_from t zero = []
keys_from t (suc n) = keys_from t n ++ (key_at t n ∷ [])

unfoldable pub keys_of : List ℕ → List ℕ
keys_of t = keys_from t (count_of t)

-- a look-up gave something
abbrev pub known : Option ℕ → Bool
known none = false
known (some v) = true

-- the sparse cell of each key says where the key stands; of the other sparse cells nothing is said
pub record Linked (t : List ℕ) : Type 0 where
  pub few : count_of t ≤ 1024
  pub back : (j : ℕ) → j < count_of t → (key_at t j < 4608) × (get_or t (key_at t j) 0 ≡ j)

-- no key is k
abbrev pub Absent : List ℕ → ℕ → Type 0
Absent t k = (j : ℕ) → j < count_of t → key_at t j ≡ k → ⊥

-- i is where the key k stands, or the count where it stands nowhere
pub record Placed (t : List ℕ) (k i : ℕ) : Type 0 where
  pub most : i ≤ count_of t
  pub here : i < count_of t → key_at t i ≡ k
  pub gone : count_of t ≤ i → Absent t k

-- every key forgotten: a map with nothing in it, whatever the table held; of the table only the count is written
pub record Emptied (t u : List ℕ) : Type 0 where
  pub map : map_of u ≡ empty_map
  pub keys : keys_of u ≡ []
  pub linked : Linked u
  pub rest : u ≡ set t 6656 0

-- the keys of t come first in u, with their values
pub record Begins (t u : List ℕ) : Type 0 where
  pub count : count_of t ≤ count_of u
  pub keys : (j : ℕ) → j < count_of t → key_at u j ≡ key_at t j
  pub values : (j : ℕ) → j < count_of t → value_at u j ≡ value_at t j

-- k, which was not there, put in at v: it comes last
pub record Inserted (t u : List ℕ) (k v : ℕ) : Type 0 where
  pub map : map_of u ≡ updated (map_of t) k v
  pub keys : keys_of u ≡ keys_of t ++ (k ∷ [])
  pub linked : Linked u
  pub begins : Begins t u

-- the same map; cells that it does not read may differ
pub record Same (t u : List ℕ) : Type 0 where
  pub map : map_of u ≡ map_of t
  pub keys : keys_of u ≡ keys_of t
  pub linked : Linked u

-- all but the first n keys forgotten: what was put in behind them is as if it never had been
abbrev pub Shortened : List ℕ → List ℕ → ℕ → Type 0
Shortened u u' n = (t : List ℕ) → count_of t ≡ n → Begins t u → Same t u'

-- what the code's Option stands for
abbrev pub found_of : std.Option ℕ → Option ℕ
found_of (Some v) = some v
found_of None = none

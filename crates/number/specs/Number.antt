-- 01, The job: "A number is groups of seven bits, low group first, top bit set on all but the last; at most 5 bytes, below 2^32, shortest form."
use Rattle.std.specs.Prelude.{ℕ, zero, suc, ◌+◌, ◌*◌, ◌/◌, ◌%◌, ◌<◌, ◌≡◌, List, [], ◌∷◌, ◌++◌, eqb, ltb, get_or}
use Rattle.entity.specs.Logic.{pick}
use Rattle.number.specs.Read.{Read, got, refused, then}

-- the group of b below higher groups that come to n, which in the shortest form are not 0
abbrev pub joined : ℕ → ℕ → List ℕ → Read ℕ
joined b n r = pick (eqb n 0) (refused 1) (got (b % 128 + n * 128) r)

-- at most k groups; a group whose top bit is set is not the last
unfoldable pub groups : ℕ → List ℕ → Read ℕ
groups zero l = refused 1
groups (suc k) [] = refused 1
groups (suc k) (b ∷ l) = pick (ltb b 128) (got b l) (then (groups k l) (joined b))

-- a number that is below 2^32
abbrev pub below : ℕ → List ℕ → Read ℕ
below n r = pick (ltb n 4294967296) (got n r) (refused 1)

-- at most 5 bytes
unfoldable pub number : List ℕ → Read ℕ
number l = then (groups 5 l) below

-- the groups of n in the shortest form, at most k
unfoldable pub groups_of : ℕ → ℕ → List ℕ
groups_of zero n = []
groups_of (suc k) n = pick (ltb n 128) (n ∷ []) ((n % 128 + 128) ∷ groups_of k (n / 128))

-- the bytes of a number below 2^32
abbrev pub encoded : ℕ → List ℕ
encoded n = groups_of 5 n

-- every element is a byte
abbrev pub Bytes : List ℕ → Type 0
Bytes l = (i : ℕ) → get_or l i 0 < 256

-- a number that is read is below 2^32 and stands there in its only form
abbrev pub OnlyForm : Type 0
OnlyForm = (l : List ℕ) (n : ℕ) (r : List ℕ) → Bytes l → number l ≡ got n r → (n < 4294967296) × (l ≡ encoded n ++ r)

-- every number below 2^32 is read back
abbrev pub ReadBack : Type 0
ReadBack = (n : ℕ) (r : List ℕ) → n < 4294967296 → number (encoded n ++ r) ≡ got n r

-- 01, Refused jobs: 1 is the one refusal of a number
abbrev pub OneRefusal : Type 0
OneRefusal = (l : List ℕ) (k : ℕ) → number l ≡ refused k → k ≡ 1

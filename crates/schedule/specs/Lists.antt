-- 02 l, a schedule: a call of a formula as a job's numbers.
use Rattle.std.specs.Prelude.{ℕ, ◌<◌, ◌≤◌, ◌≡◌, Bool, List, eqb, length, take, drop}
use Rattle.entity.specs.Logic.{pick}
use Rattle.number.specs.Read.{Read, got, refused, then}
use Rattle.number.specs.Number.{number}
use Rattle.number.specs.declared.Number.{Number}
use Rattle.number.specs.declared.Number.TheVariants as N
use Rattle.reading.specs.Reading.{below, times}
use Rattle.schedule.specs.declared.Lists as L

-- a list of at most 1,024 numbers behind its count
unfoldable pub listed : List ℕ → Read (List ℕ)
listed l = then (below 1025 l) (λ n r. times n number r)

-- what was read stands at the front of a lent list
abbrev pub ListAt : (s : List ℕ) (at : ℕ) (numbers : List ℕ) → Number → Type 0
ListAt s at numbers (N.Is n next) = (listed (drop at s) ≡ got (take n numbers) (drop next s)) × (at < next) × (next ≤ length s) × (n ≤ 1024) × (length numbers ≡ 1024)
ListAt s at numbers (N.Refused k) = listed (drop at s) ≡ refused k

-- a patch: its free units, and its entries' numbers
pub record Given : Type 0 where
  pub free : List ℕ
  pub numbers : List ℕ

unfoldable pub patched : List ℕ → Read Given
patched l = then (listed l) (λ free r. then (listed r) (λ numbers q. got (record { free = free; numbers = numbers }) q))

abbrev pub ListsAt : (s : List ℕ) (at : ℕ) (free numbers : List ℕ) → L.Lists → Type 0
ListsAt s at free numbers (L.TheVariants.Are n m next) =
    (patched (drop at s) ≡ got (record { free = take n free; numbers = take m numbers }) (drop next s)) × (at < next) × (next ≤ length s) × (n ≤ 1024) × (m ≤ 1024) × (length free ≡ 1024) × (length numbers ≡ 1024)
ListsAt s at free numbers (L.TheVariants.Refused k) = patched (drop at s) ≡ refused k

-- a call
pub data Called : Type 0 where
  resolves : Given → Called
  asks : Given → Called
  takes : Called

-- one with a patch
abbrev pub with_patch : Bool → List ℕ → Read Called
with_patch asked l = then (patched l) (λ p q. got (pick asked (asks p) (resolves p)) q)

-- 0 and a patch to resolve, 1 and one to ask for, or 2, to take
unfoldable pub called : List ℕ → Read Called
called l = then (below 3 l) (λ k r. pick (eqb k 2) (got takes r) (with_patch (eqb k 1) r))

-- What the steps of `label` ensure: the entries before one have labels, and each unit that they have has an owner with their label.
use Rattle.std.specs.Prelude.{ℕ, ◌+◌, ◌<◌, ◌≤◌, ◌≡◌, Bool, true, List, ◌⊎◌, eqb, ltb, length, get_or}
use Rattle.entity.specs.Logic.{pick, or, has}
use Rattle.reginfo.specs.RegInfo.{RegInfo}
use Rattle.rules.specs.Patch.{Entry}
use Rattle.group_rules.specs.Groups.{Together, near, entry_units}
use Rattle.group_rules.specs.Refusals.{no_entry}
use Rattle.groups.specs.Given.{entry_at}

-- what becomes of a label where a and b become the lesser of them
abbrev pub renamed : ℕ → ℕ → ℕ → ℕ
renamed a b x = pick (or (eqb x a) (eqb x b)) (pick (ltb a b) a b) x

abbrev pub Renamed : ℕ → ℕ → List ℕ → List ℕ → Type 0
Renamed a b ls ls' = (i : ℕ) → i < 128 → get_or ls' i 0 ≡ renamed a b (get_or ls i 0)

-- entry k has unit u: it becomes the owner, or its label and the owner's become one
pub record UnitNoted (u k : ℕ) (o ls o' ls' : List ℕ) : Type 0 where
  pub fresh : 128 ≤ get_or o u 0 → (get_or o' u 0 ≡ k) × ((v : ℕ) → (v ≡ u → ⊥) → get_or o' v 0 ≡ get_or o v 0) × (ls' ≡ ls)
  pub owned : get_or o u 0 < 128 → (o' ≡ o) × Renamed (get_or ls (get_or o u 0) 0) (get_or ls k 0) ls ls'

module _ (t : RegInfo) (l : List Entry) where
  abbrev pub units_at : ℕ → List ℕ
  units_at i = entry_units t (get_or l i no_entry)

  -- of the entries before m: equal labels belong together, each label is the number of the first of them, and of the units told the owner has the
  -- label
  pub record Noted (m : ℕ) (told : ℕ → ℕ → Type 0) (o ls : List ℕ) : Type 0 where
    pub few : m ≤ length l
    pub sound : (i j : ℕ) → i < m → j < m → get_or ls i 0 ≡ get_or ls j 0 → Together (near t) no_entry l i j
    pub first : (i : ℕ) → i < m → get_or ls i 0 ≤ i
    pub named : (i : ℕ) → i < m → get_or ls (get_or ls i 0) 0 ≡ get_or ls i 0
    pub owner : (u : ℕ) → u < 4608 → (128 ≤ get_or o u 0) ⊎ ((get_or o u 0 < m) × (has u (units_at (get_or o u 0)) ≡ true))
    pub owned : (i u : ℕ) → i < m → u < 4608 → told i u → (get_or o u 0 < m) × (get_or ls (get_or o u 0) 0 ≡ get_or ls i 0)

  -- with every unit of theirs
  abbrev pub AllNoted : ℕ → List ℕ → List ℕ → Type 0
  AllNoted m o ls = Noted m (λ i u. has u (units_at i) ≡ true) o ls

-- entry k has the units us too
abbrev pub PlaceNoted : RegInfo → List ℕ → ℕ → (o ls o' ls' : List ℕ) → Type 0
PlaceNoted t us k o ls o' ls' =
    (l : List Entry) (told : ℕ → ℕ → Bool) → ((u : ℕ) → has u us ≡ true → has u (units_at t l k) ≡ true) → Noted t l (k + 1) (λ i u. told i u ≡ true) o ls
    → Noted t l (k + 1) (λ i u. (told i u ≡ true) ⊎ ((i ≡ k) × (has u us ≡ true))) o' ls'

-- one entry more
abbrev pub EntryNoted : RegInfo → List ℕ → ℕ → (o ls o' ls' : List ℕ) → Type 0
EntryNoted t numbers k o ls o' ls' =
    (l : List Entry) → k < length l → get_or l k no_entry ≡ entry_at numbers k → AllNoted t l k o ls → AllNoted t l (k + 1) o' ls'

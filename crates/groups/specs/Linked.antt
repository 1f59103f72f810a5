-- The entries of a group, one after the other.
use Rattle.std.specs.Prelude.{ℕ, zero, suc, ◌+◌, ◌<◌, ◌≡◌, List, eqb, get_or}
use Rattle.entity.specs.Logic.{pick}
use Rattle.reginfo.specs.RegInfo.{RegInfo}
use Rattle.groups.specs.Given.{count_of, labels_in}

-- the first of the n labels from i on that is g; 255: none
unfoldable pub next_of : List ℕ → ℕ → ℕ → ℕ → ℕ
next_of ls g i zero = 255
next_of ls g i (suc n) = pick (eqb (get_or ls i 0) g) i (next_of ls g (i + 1) n)

-- of each of n entries the next one with its label
abbrev pub Linked : List ℕ → ℕ → List ℕ → Type 0
Linked ls n next = (k j : ℕ) → k + 1 + j ≡ n → get_or next k 0 ≡ next_of ls (get_or ls k 0) (k + 1) j

-- g is the first entry of a group of these entries, and the entries of each group are linked
pub record GroupAt (t : RegInfo) (numbers next : List ℕ) (g : ℕ) : Type 0 where
  pub linked : Linked (labels_in t numbers) (count_of numbers) next
  pub low : g < count_of numbers
  pub first : get_or (labels_in t numbers) g 0 ≡ g

-- 02 k: "whose free units are those of the whole patch that no source of another group holds".
use Rattle.std.specs.Prelude.{ℕ, ◌≡◌, Bool, List}
use Rattle.entity.specs.Logic.{and, or, no, any_in, has}
use Rattle.reginfo.specs.RegInfo.{RegInfo}
use Rattle.rules.specs.Patch.{Patch}
use Rattle.small_set.specs.Set.{set_of}
use Rattle.group_rules.specs.Groups.{source_units, labels_of, part}
use Rattle.parallel_moves.specs.Given.{entries_of, Numbered}

-- without these units, and with those of them that are free
abbrev pub Closed : List ℕ → List Bool → List Bool → Type 0
Closed us out out' = (u : ℕ) → set_of out' u ≡ and (no (has u us)) (set_of out u)

abbrev pub Reopened : List ℕ → List Bool → List Bool → List Bool → Type 0
Reopened us free out out' = (u : ℕ) → set_of out' u ≡ or (and (has u us) (set_of free u)) (set_of out u)

-- the free units that no source has
abbrev pub CommonAs : RegInfo → List ℕ → List Bool → List Bool → Type 0
CommonAs t numbers free out = (u : ℕ) → set_of out u ≡ and (no (any_in (λ e. has u (source_units t e)) (entries_of numbers))) (set_of free u)

-- the free units of the group labelled g
abbrev pub FreeAs : RegInfo → List ℕ → List Bool → ℕ → List Bool → Type 0
FreeAs t numbers free g out = (p : Patch) → Numbered free numbers p → (u : ℕ) → has u (part t p (labels_of t p) g).free ≡ set_of out u

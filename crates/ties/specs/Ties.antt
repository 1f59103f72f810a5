-- 02 m: which kept moves have the same content in every start, in one table of numbers: at v a kept move of value v, at 4096 + c one whose source
-- has place code c, and at 12288 + m the label of kept move m. Cells of other values and sources may hold anything.
use Rattle.std.specs.Prelude.{ℕ, ◌+◌, ◌*◌, ◌<◌, ◌≤◌, ◌≡◌, List, get_or, set}
use Rattle.entity.specs.Logic.{cells}
use Rattle.group_rules.specs.Groups.{join, labels}
use Rattle.entries.specs.Table.{sorted_of}
use Rattle.examine_rules.specs.Examine.{tied}

-- how many are kept, and of kept move m the source's code and the value
abbrev pub kept : List ℕ → ℕ
kept e = get_or e 1024 0

abbrev pub source_at : List ℕ → ℕ → ℕ
source_at e m = get_or e (m * 4) 0

abbrev pub value_at : List ℕ → ℕ → ℕ
value_at e m = get_or e (2 + m * 4) 0

abbrev pub labels_in : List ℕ → ℕ → List ℕ
labels_in x n = cells x 12288 n

-- what the entries' table is known to hold
pub record Kept (e : List ℕ) : Type 0 where
  pub few : kept e ≤ 128
  pub sources : (m : ℕ) → m < kept e → source_at e m < 8192
  pub values : (m : ℕ) → m < kept e → value_at e m < 4096

-- the kept moves that the cells of its source and of its value tell
abbrev pub by_source : List ℕ → List ℕ → ℕ → ℕ
by_source e x m = get_or x (4096 + source_at e m) 0

abbrev pub by_value : List ℕ → List ℕ → ℕ → ℕ
by_value e x m = get_or x (value_at e m) 0

-- kept move m noted
abbrev pub noted_one : List ℕ → List ℕ → ℕ → List ℕ
noted_one e x m = set (set (set x (value_at e m) m) (4096 + source_at e m) m) (12288 + m) m

-- of the first n kept moves: the cell of its source tells one of them with that source, and the cell of its value one with that value
pub record NotedTo (e x : List ℕ) (n : ℕ) : Type 0 where
  pub source-kept : (m : ℕ) → m < n → by_source e x m < n
  pub source-same : (m : ℕ) → m < n → source_at e (by_source e x m) ≡ source_at e m
  pub value-kept : (m : ℕ) → m < n → by_value e x m < n
  pub value_same : (m : ℕ) → m < n → value_at e (by_value e x m) ≡ value_at e m

abbrev pub Noted : List ℕ → List ℕ → Type 0
Noted e x = NotedTo e x (kept e)

-- the cells of sources and values stay
abbrev pub SameCells : List ℕ → List ℕ → Type 0
SameCells x x' = (y : ℕ) → y < 12288 → get_or x' y 0 ≡ get_or x y 0

abbrev pub joined_in : List ℕ → ℕ → ℕ → List ℕ
joined_in ls i k = join (get_or ls i 0) (get_or ls k 0) ls

-- kept move m joined with the two that the cells tell
pub record TiedOne (e x x' : List ℕ) (m : ℕ) : Type 0 where
  pub labels-are : labels_in x' (kept e) ≡ joined_in (joined_in (labels_in x (kept e)) m (by_source e x m)) m (by_value e x m)
  pub same : SameCells x x'

pub record Tied (e x : List ℕ) : Type 0 where
  pub known : Kept e
  pub noted : Noted e x
  pub labels-are : labels_in x (kept e) ≡ labels tied (sorted_of e).moves

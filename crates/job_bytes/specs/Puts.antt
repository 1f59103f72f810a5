-- What putting numbers into the working bytes ensures.
use Rattle.std.specs.Prelude.{ℕ, ◌+◌, ◌*◌, ◌<◌, ◌≤◌, ◌≡◌, Option, Some, None, List, ◌++◌, length, get_or, take}
use Rattle.entity.specs.Logic.{indices}
use Rattle.job_numbers.specs.Numbers.{each_of}

-- the bytes stand behind those before `at`, up to the next offset, which is within; or with those they are more than a job has
pub record Puts (work : List ℕ) (at : ℕ) (bytes work' : List ℕ) (r : Option ℕ) : Type 0 where
  pub stand : (next : ℕ) → r ≡ Some next → take next work' ≡ take at work ++ bytes
  pub within : (next : ℕ) → r ≡ Some next → at ≤ 65536 → next ≤ 65536
  pub over : r ≡ None → 65536 < length (take at work ++ bytes)

-- the bytes of the first n rows
abbrev pub rows : (ℕ → List ℕ) → ℕ → List ℕ
rows row n = each_of row (indices 0 n)

-- the lists of the first n registers and classes are within their strides
abbrev pub FewUnits : List ℕ → ℕ → Type 0
FewUnits t n = (r : ℕ) → r < n → get_or t (2 + r * 16) 0 ≤ 8

abbrev pub FewMembers : List ℕ → ℕ → Type 0
FewMembers t n = (c : ℕ) → c < n → (get_or t (8194 + c * 8) 0 ≤ 512) × (get_or t (8195 + c * 8) 0 ≤ 512)

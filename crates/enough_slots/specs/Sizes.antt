-- A flag for each of the 32 slot sizes.
use Rattle.std.specs.Prelude.{ℕ, ◌≡◌, Bool, List}
use Rattle.entity.specs.Logic.{or}
use Rattle.reginfo.specs.RegInfo.{RegInfo}
use Rattle.function.specs.Function.{Function}
use Rattle.small_set.specs.Set.{set_of}
use Rattle.machine.specs.Enough.{is_size}

-- the sizes of the function's banks are marked beside those that were
abbrev pub AllMarked : RegInfo → Function → (old new : List Bool) → Type 0
AllMarked t f old new = (z : ℕ) → set_of new z ≡ or (set_of old z) (is_size t f z)

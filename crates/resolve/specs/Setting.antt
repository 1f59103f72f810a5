-- 02 i: a function's number of kept evictions, "given beside the job, 1 where it sets none".
use Rattle.std.specs.Prelude.{ℕ, List, [], ◌∷◌, eqb, ltb}
use Rattle.entity.specs.Logic.{pick}

-- an argument `1` or `2`; 0 for any other, which a job is refused with
abbrev pub setting_of : List ℕ → ℕ
setting_of [] = 0
setting_of (b ∷ []) = pick (eqb b 49) 1 (pick (eqb b 50) 2 0)
setting_of (b ∷ c ∷ l) = 0

-- of `count` arguments, the program's own name among them, and the one behind it
abbrev pub setting_from : (count : ℕ) → List ℕ → ℕ
setting_from count arg = pick (ltb count 2) 1 (pick (eqb count 2) (setting_of arg) 0)

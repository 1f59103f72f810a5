-- 02 m: what the machine holds, as one table of numbers. Of cell c (register unit u is u, slot s is 512 + s) the mark stands at c: 0 where
-- nothing was written there, so that it holds its unknown list, else one more than the length of its list, whose words stand from 7168 + 9 c on.
-- The word of register unit u stands at 6656 + u.
use Rattle.std.specs.Prelude.{ℕ, ◌+◌, ◌-◌, ◌*◌, ◌<◌, ◌≤◌, ◌≡◌, true, false, List, eqb, ltb, length, get_or}
use Rattle.entity.specs.Logic.{pick, has, cells}
use Rattle.entity.specs.Place.{Place}
use Rattle.reginfo.specs.RegInfo.{RegInfo, place_units, is_memory}
use Rattle.reginfo.specs.Known.{KnownPlace}
use Rattle.machine.specs.Machine.{Memory}
use Rattle.examine_rules.specs.Examine.{unknown}

unfoldable pub list_in : List ℕ → ℕ → List ℕ
list_in cs c = pick (eqb (get_or cs c 0) 0) (unknown c) (cells cs (7168 + c * 9) (get_or cs c 0 - 1))

-- every cell that no place of a patch has is as at the start
unfoldable pub memory_of : List ℕ → Memory
memory_of cs = record { word = λ u. pick (ltb u 512) (get_or cs (6656 + u) 0) u; lists = λ c. pick (ltb c 6656) (list_in cs c) (unknown c) }

-- no list has more than nine words
abbrev pub Short : List ℕ → Type 0
Short cs = (c : ℕ) → c < 6656 → get_or cs c 0 ≤ 10

-- a list of words on its way: cell 0 counts them, and they stand from cell 1 on
unfoldable pub words_in : List ℕ → List ℕ
words_in b = cells b 1 (get_or b 0 0)

abbrev pub count_in : List ℕ → ℕ
count_in b = get_or b 0 0

-- a place of the target that has cells
pub record Celled (t : RegInfo) (p : Place) : Type 0 where
  pub known : KnownPlace t p
  pub some : 0 < length (place_units t p)
  pub few : length (place_units t p) ≤ 8
  pub low : (u : ℕ) → has u (place_units t p) ≡ true → u < 6656

-- a register that is not memory takes a list of its own length
abbrev pub Takes : RegInfo → Place → ℕ → Type 0
Takes t p n = is_memory t p ≡ false → n ≡ length (place_units t p)

-- n words put at `at`, all else as it was
pub record Put (cs cs' : List ℕ) (at n : ℕ) (ws : List ℕ) : Type 0 where
  pub words : cells cs' at n ≡ ws
  pub below : (x : ℕ) → x < at → get_or cs' x 0 ≡ get_or cs x 0
  pub above : (x : ℕ) → at + n ≤ x → get_or cs' x 0 ≡ get_or cs x 0

-- 02 n: a patch drawn from a seed.
use Rattle.std.specs.Prelude.{ℕ, zero, suc, ◌+◌, ◌-◌, ◌%◌, List, [], ◌∷◌, ltb}
use Rattle.entity.specs.Logic.{pick}
use Rattle.entity.specs.Place.{Place, reg, slot}
use Rattle.reginfo.specs.RegInfo.{RegInfo, num_regs}
use Rattle.function.specs.Function.{Function, num_values}
use Rattle.rules.specs.Patch.{Entry, move, Patch}
use Rattle.draws.specs.Draws.{next}

-- what was drawn: the entries, every draw in its order, and the seed after them
pub record Drawn : Type 0 where
  pub entries : List Entry
  pub draws : List ℕ
  pub seed : ℕ

-- "registers first, then the N slots"
unfoldable pub place_numbered : RegInfo → ℕ → Place
place_numbered t i = pick (ltb i (num_regs t)) (reg i) (slot (i - num_regs t))

abbrev pub num_places : RegInfo → Function → ℕ
num_places t f = num_regs t + f.slots

-- "for each move the source, destination and value, modulo the count of places [..] or of values": of three draws
abbrev pub drawn_entry : RegInfo → Function → (a b c : ℕ) → Entry
drawn_entry t f a b c = move (place_numbered t (a % num_places t f)) (place_numbered t (b % num_places t f)) (c % num_values f)

-- and before what follows
abbrev pub drawn_move : RegInfo → Function → (a b c : ℕ) → Drawn → Drawn
drawn_move t f a b c d = record { entries = drawn_entry t f a b c ∷ d.entries; draws = a ∷ b ∷ c ∷ d.draws; seed = d.seed }

unfoldable pub draw_moves : RegInfo → Function → ℕ → ℕ → Drawn
draw_moves t f zero s = record { entries = []; draws = []; seed = s }
draw_moves t f (suc n) s = drawn_move t f (next s) (next (next s)) (next (next (next s))) (draw_moves t f n (next (next (next s))))

-- "A patch draws its entry count, 1 more than the draw modulo 16"
abbrev pub counted : ℕ → Drawn → Drawn
counted a d = record { entries = d.entries; draws = a ∷ d.draws; seed = d.seed }

unfoldable pub draw_patch : RegInfo → Function → ℕ → Drawn
draw_patch t f s = counted (next s) (draw_moves t f (1 + next s % 16) (next s))

-- "No unit is free."
abbrev pub patch_of : Drawn → Patch
patch_of d = record { free = []; entries = d.entries }

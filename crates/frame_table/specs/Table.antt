-- 02 l, the table of a frame: how many formulas at 0, the limit at 1, the counter at 2, the first one's N at 3, the share of formula j at 4 + j, how
-- many slots it made at 20 + j, how many formulas are open at 36.
use Rattle.std.specs.Prelude.{ℕ, ◌+◌, ◌-◌, Bool, List, eqb, ltb, get_or}
use Rattle.entity.specs.Logic.{pick, and}
use Rattle.rules.specs.Counts.{sum}

abbrev pub number_of : List ℕ → ℕ
number_of frame = get_or frame 0 0

abbrev pub limit_of : List ℕ → ℕ
limit_of frame = get_or frame 1 0

abbrev pub counter_of : List ℕ → ℕ
counter_of frame = get_or frame 2 0

abbrev pub slots_of : List ℕ → ℕ
slots_of frame = get_or frame 3 0

abbrev pub share_of : List ℕ → ℕ → ℕ
share_of frame j = get_or frame (4 + j) 0

abbrev pub made_of : List ℕ → ℕ → ℕ
made_of frame j = get_or frame (20 + j) 0

abbrev pub open_of : List ℕ → ℕ
open_of frame = get_or frame 36 0

-- formula i is the next to be opened: below the shares, after those before it, each once, and no slot is made yet
unfoldable pub opens_next : List ℕ → ℕ → Bool
opens_next frame i = and (ltb i (number_of frame)) (and (eqb (counter_of frame) 0) (eqb (open_of frame) i))

-- what a formula still lacks of its share, the others than i, and "what the others still lack of their shares"
abbrev pub lacks_of : List ℕ → ℕ → ℕ
lacks_of frame j = share_of frame j - made_of frame j

abbrev pub lacks_beside : List ℕ → ℕ → ℕ → ℕ
lacks_beside frame i j = pick (eqb j i) 0 (lacks_of frame j)

unfoldable pub others_lack_of : List ℕ → ℕ → ℕ
others_lack_of frame i = sum (lacks_beside frame i) (number_of frame)

-- how far the counter may go in a call of formula i: where all that was promised is kept, 02 l's `reach` (`Held`)
abbrev pub reach_of : List ℕ → ℕ → ℕ
reach_of frame i = limit_of frame - others_lack_of frame i

-- What the steps on a frame's table promise.
use Rattle.std.specs.Prelude.{ℕ, ◌+◌, ◌-◌, ◌<◌, ◌≡◌, List, get_or}
use Rattle.frame_table.specs.Table.{number_of, limit_of, counter_of, slots_of, share_of, made_of, open_of}

-- the first one's N is n, and nothing else has changed
pub record SlotsSet (frame : List ℕ) (n : ℕ) (frame' : List ℕ) : Type 0 where
  pub number : number_of frame' ≡ number_of frame
  pub limit : limit_of frame' ≡ limit_of frame
  pub counter : counter_of frame' ≡ counter_of frame
  pub slots : slots_of frame' ≡ n
  pub share : (j : ℕ) → share_of frame' j ≡ share_of frame j
  pub made : (j : ℕ) → made_of frame' j ≡ made_of frame j

-- the counter is n, formula i has made the slots between, and nothing else has changed
pub record WentOn (frame : List ℕ) (i n : ℕ) (frame' : List ℕ) : Type 0 where
  pub number : number_of frame' ≡ number_of frame
  pub limit : limit_of frame' ≡ limit_of frame
  pub counter : counter_of frame' ≡ n
  pub slots : slots_of frame' ≡ slots_of frame
  pub share : (j : ℕ) → j < 16 → share_of frame' j ≡ share_of frame j
  pub own : made_of frame' i ≡ made_of frame i + (n - counter_of frame)
  pub others : (j : ℕ) → (j ≡ i → ⊥) → made_of frame' j ≡ made_of frame j

-- formula i and those before it are open, and nothing else has changed
pub record OneOpened (frame : List ℕ) (i : ℕ) (frame' : List ℕ) : Type 0 where
  pub opened : open_of frame' ≡ i + 1
  pub rest : (j : ℕ) → (j ≡ 36 → ⊥) → get_or frame' j 0 ≡ get_or frame j 0

-- The emergency slots of a function (the cache), and what a patch has done to them so far.
--   cache: depth of stack z at z, slots made at 32, the stamp from 33 to 36, stack z from 64 + 2048 z, the bottom first
--   slots, for one patch: how many of the cache's stack z are left at z, how many were put back since at 32 + z, those from 64 + 1024 z;
--     the stacks that the patch has changed lie from the number at 32832 to before that at 32833;
--     the greatest position that its searches met at 32834
use Rattle.std.specs.Prelude.{ℕ, zero, suc, ◌+◌, ◌*◌, ◌%◌, ◌<◌, ◌≤◌, ◌≡◌, List, [], ◌∷◌, ◌++◌, get_or, ltb}
use Rattle.entity.specs.Logic.{pick}
use Rattle.rules.specs.Scratch.{Cache}

-- the n cells from `at` on, the last first: the top of a stack stands first
unfoldable pub top_first : List ℕ → ℕ → ℕ → List ℕ
top_first t at zero = []
top_first t at (suc n) = get_or t (at + n) 0 ∷ top_first t at n

abbrev pub depth_of : List ℕ → ℕ → ℕ
depth_of cache z = get_or cache z 0

abbrev pub left_of : List ℕ → ℕ → ℕ
left_of slots z = get_or slots z 0

abbrev pub own_of : List ℕ → ℕ → ℕ
own_of slots z = get_or slots (32 + z) 0

abbrev pub low_of : List ℕ → ℕ
low_of slots = get_or slots 32832 0

abbrev pub high_of : List ℕ → ℕ
high_of slots = get_or slots 32833 0

abbrev pub met_of : List ℕ → ℕ
met_of slots = get_or slots 32834 0

unfoldable pub cache_of : List ℕ → Cache
cache_of cache = record { stacks = λ z. pick (ltb z 32) (top_first cache (64 + z * 2048) (depth_of cache z)) []; made = get_or cache 32 0 }

-- 02 g: how many patches were taken or resolved on the cache, modulo 2^64; four cells, the lowest first
unfoldable pub stamp_of : List ℕ → ℕ
stamp_of cache = get_or cache 33 0 + 65536 * (get_or cache 34 0 + 65536 * (get_or cache 35 0 + 65536 * get_or cache 36 0))

-- one more
unfoldable pub raised : ℕ → ℕ
raised n = (n + 1) % 18446744073709551616

-- the stamp after so many patches, on a cache that started with another: start and count together, modulo 2^64
unfoldable pub stamp_after : (start count : ℕ) → ℕ
stamp_after start count = (start + count) % 18446744073709551616

-- the stacks as the patch has them now: what it put back lies on what is left of the cache's
unfoldable pub stacks_of : List ℕ → List ℕ → ℕ → List ℕ
stacks_of slots cache z = pick (ltb z 32) (top_first slots (64 + z * 1024) (own_of slots z) ++ top_first cache (64 + z * 2048) (left_of slots z)) []

pub record CacheFits (cache : List ℕ) : Type 0 where
  pub deep : (z : ℕ) → z < 32 → depth_of cache z ≤ 2048

-- no more was put back on a stack than n
pub record SlotsFit (n : ℕ) (slots : List ℕ) : Type 0 where
  pub left : (z : ℕ) → z < 32 → left_of slots z ≤ 2048
  pub own : (z : ℕ) → z < 32 → own_of slots z ≤ n

-- all of the cache's stack z is left, and nothing was put back on it
abbrev pub Unchanged : List ℕ → List ℕ → ℕ → Type 0
Unchanged cache slots z = (left_of slots z ≡ depth_of cache z) × (own_of slots z ≡ 0)

-- the stacks outside the range are as they were when the patch began
pub record Untouched (cache slots : List ℕ) : Type 0 where
  pub high : high_of slots ≤ 32
  pub below : (z : ℕ) → z < 32 → z < low_of slots → Unchanged cache slots z
  pub above : (z : ℕ) → z < 32 → high_of slots ≤ z → Unchanged cache slots z
